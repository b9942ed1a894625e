use Rattle.std.proofs.Common.{◌+◌, ◌*◌}
use Rattle.agg_request_tree.specs.Request.{own_builder}
use Rattle.agg_request_tree.proofs.RequestTrees.{height, levels}
use Rattle.agg_check.proofs.lemmas.refusals.SeenRequests.{IsSeenUpTo}
use Rattle.agg_check.proofs.verdict.+builders.Given as goal

abbrev pub decreases-asks_for_builder : goal.decreases-asks_for_builder
decreases-asks_for_builder g l = 2 * levels l.request.now + 1

abbrev pub decreases-has_builder : goal.decreases-has_builder
decreases-has_builder g l = 2 * height l.aggregation.now

abbrev pub invariant-asks_for_builder-loop-aggregation
    : goal.invariant-asks_for_builder-loop-aggregation
invariant-asks_for_builder-loop-aggregation g l =
    IsSeenUpTo own_builder (λ b. ⊥) l.request l.aggregation-iterator
