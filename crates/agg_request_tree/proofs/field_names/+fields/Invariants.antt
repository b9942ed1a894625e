use Rattle.std.proofs.Common.{◌+◌, ◌*◌}
use Rattle.agg_request_tree.proofs.FieldNames.{AreAddedUpTo}
use Rattle.agg_request_tree.proofs.RequestTrees.{height, levels}
use Rattle.agg_request_tree.proofs.field_names.+fields.Given as goal

abbrev pub decreases-add_request : goal.decreases-add_request
decreases-add_request g l = 2 * levels l.aggs.now + 1

abbrev pub decreases-add_aggregation : goal.decreases-add_aggregation
decreases-add_aggregation g l = 2 * height l.aggregation.now

abbrev pub invariant-add_request-loop-aggregation
    : goal.invariant-add_request-loop-aggregation
invariant-add_request-loop-aggregation g l =
    AreAddedUpTo l.aggs l.aggregation-iterator l.fn.names l.names
