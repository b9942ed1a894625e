use Rattle.std.proofs.Common.{◌≡◌, ◌≢◌, subst, take}
use Rattle.std.specs.List.{All, Any}
use Rattle.agg_request_tree.specs.Source.{name_of}
use Rattle.agg_request_tree.proofs.Checks.{HaveOwnNames-more, HaveOwnNames-not, HaveOwnNames-whole}
use Rattle.agg_request_tree.proofs.check.has_duplicate.Goals as goal

pub returns-then-has_name : goal.returns-then-has_name
returns-then-has_name c =
    HaveOwnNames-not c.args.sources.now c.loop-i.i c.index-sources-i.result c.loop-i-test.true
    c.index-sources-i.is
    (subst (λ n. Any (λ s. name_of s ≡ n) (take c.loop-i.i c.args.sources.now)) c.name.ensures
    c.if-has_name.ensures)

pub returns : goal.returns
returns c =
    HaveOwnNames-whole c.args.sources.now c.loop-i.i c.loop-i-test.false c.loop-i.invariant

pub loop-i-preserved : goal.loop-i-preserved
loop-i-preserved c =
    HaveOwnNames-more c.args.sources.now c.loop-i.i c.index-sources-i.result c.loop-i-test.true
    c.index-sources-i.is c.loop-i.invariant
    (subst (λ n. All (λ s. name_of s ≢ n) (take c.loop-i.i c.args.sources.now)) c.name.ensures
    c.if-has_name.ensures)
