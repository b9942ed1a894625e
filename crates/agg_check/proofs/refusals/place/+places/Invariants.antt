use Rattle.std.proofs.Common.{◌+◌, ◌*◌}
use Rattle.agg_request_tree.specs.Faults.{IsSound}
use Rattle.agg_request_tree.specs.Request.{own_composite}
use Rattle.agg_request_tree.proofs.RequestTrees.{height, levels}
use Rattle.agg_check.proofs.lemmas.refusals.SeenRequests.{IsSeenUpTo}
use Rattle.agg_check.proofs.refusals.place.+places.Given as goal

abbrev pub decreases-refused_composite : goal.decreases-refused_composite
decreases-refused_composite g l = 2 * levels l.request.now + 1

abbrev pub decreases-refused_below : goal.decreases-refused_below
decreases-refused_below g l = 2 * height l.aggregation.now

abbrev pub invariant-refused_composite-loop-name : goal.invariant-refused_composite-loop-name
invariant-refused_composite-loop-name g l =
    IsSeenUpTo own_composite IsSound l.request l.name-iterator
