use Rattle.std.proofs.Common.{◌+◌, ◌*◌}
use Rattle.serde_json.specs.View.{members_view}
use Rattle.agg_request.specs.ReadBack.{IsWritten, SaysAggregation}
use Rattle.agg_request.specs.WrittenJson.{data_of_aggregation}
use Rattle.agg_request_tree.proofs.RequestTrees.{height, levels}
use Rattle.agg_request.proofs.Writable.{AreWritable}
use Rattle.agg_request.proofs.WrittenMembers.{AreWrittenUpTo}
use Rattle.agg_request.proofs.writer.+written.Given as goal

abbrev pub decreases-write_request : goal.decreases-write_request
decreases-write_request g l = 2 * levels l.request.now + 1

abbrev pub decreases-write_aggregation : goal.decreases-write_aggregation
decreases-write_aggregation g l = 2 * height l.aggregation.now

abbrev pub invariant-write_request-loop-name : goal.invariant-write_request-loop-name
invariant-write_request-loop-name g l =
    AreWrittenUpTo (IsWritten (data_of_aggregation g.B.HasName.name_of)
    (SaysAggregation g.B.HasName.name_of)) l.request l.name-iterator
    (members_view l.members.entries)
    × AreWritable l.request l.name-iterator
