use Rattle.std.proofs.Common.{◌+◌, ◌*◌}
use Rattle.agg_request_tree.proofs.CheckedRequests.{IsCheckedUpTo}
use Rattle.agg_request_tree.proofs.RequestTrees.{height, levels}
use Rattle.agg_request_tree.proofs.check.+checks.Given as goal

abbrev pub decreases-check_aggregations : goal.decreases-check_aggregations
decreases-check_aggregations g l = 2 * levels l.request.now + 1

abbrev pub decreases-check_aggregation : goal.decreases-check_aggregation
decreases-check_aggregation g l = 2 * height l.aggregation.now

abbrev pub invariant-check_aggregations-loop-aggregation
    : goal.invariant-check_aggregations-loop-aggregation
invariant-check_aggregations-loop-aggregation g l = IsCheckedUpTo l.request l.aggregation-iterator
