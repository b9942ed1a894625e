use Rattle.std.proofs.Common.{◌≢◌}
use Rattle.agg_request_tree.specs.Source.{name_of}
use Rattle.agg_request_tree.proofs.Checks.{All-next, All-whole, apart}
use Rattle.agg_request_tree.proofs.check.has_name.Goals as goal

pub returns : goal.returns
returns c =
    All-whole (λ source. name_of source ≢ c.args.name.now) c.args.sources.now
    c.loop-source.source-index c.loop-source-test.false c.loop-source.invariant

pub loop-source-preserved : goal.loop-source-preserved
loop-source-preserved c =
    All-next (λ source. name_of source ≢ c.args.name.now) c.args.sources.now
    c.loop-source.source-index c.source-item.result c.loop-source-test.true c.source-item.is
    c.loop-source.invariant
    (apart c.name.result.now (name_of c.source-item.result) c.args.name.now c.if-eq.ensures
    c.name.ensures)
