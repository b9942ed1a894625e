use Rattle.std.proofs.Common.{◌↔◌, ◌≡◌, IsTrue, subst, sym}
use Rattle.std.specs.Cmp.Lexicographic.{pointwise_decides}
use Rattle.agg_request_tree.proofs.SourceEquality.{sources-decided}
use Rattle.agg_request_tree.proofs.same.composite.are_same_sources.Goals as goal

pub returns : goal.returns
returns c =
    let sources = c.args.sources.now in
    let others = c.args.others.now in
    subst (λ r. IsTrue r ↔ (sources ≡ others)) (sym c.eq.ensures)
    (pointwise_decides sources-decided sources others)
