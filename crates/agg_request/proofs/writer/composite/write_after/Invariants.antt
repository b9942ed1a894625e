use Rattle.std.proofs.Common.{false}
use Rattle.serde_json.specs.View.{members_view}
use Rattle.agg_request.specs.reading.CompositeJson.{IsKeyJson}
use Rattle.agg_request.specs.ReadBack.{IsWritten}
use Rattle.agg_request.specs.WrittenJson.{data_of_key}
use Rattle.agg_request.proofs.WrittenMembers.{AreWrittenUpTo}
use Rattle.agg_request.proofs.writer.composite.write_after.Given as goal

abbrev pub invariant-loop-name : goal.invariant-loop-name
invariant-loop-name l =
    AreWrittenUpTo (IsWritten data_of_key (IsKeyJson false)) l.after l.name-iterator
    (members_view l.members.entries)
