use Rattle.std.proofs.Common.{◌+◌, ◌*◌}
use Rattle.agg_request_tree.proofs.RequestTrees.{height, levels}
use Rattle.agg_request.proofs.Writable.{AreUndecided}
use Rattle.agg_request.proofs.writer.writable.+writable.Given as goal

abbrev pub decreases-all_may_be_written : goal.decreases-all_may_be_written
decreases-all_may_be_written g l = 2 * levels l.request.now + 1

abbrev pub decreases-is_writable : goal.decreases-is_writable
decreases-is_writable g l = 2 * height l.aggregation.now

abbrev pub invariant-all_may_be_written-loop-aggregation
    : goal.invariant-all_may_be_written-loop-aggregation
invariant-all_may_be_written-loop-aggregation g l = AreUndecided l.request l.aggregation-iterator
