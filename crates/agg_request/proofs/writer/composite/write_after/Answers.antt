use Rattle.std.proofs.Common.{false, ap, ◌∙◌}
use Rattle.serde_json.specs.Data.{put}
use Rattle.serde_json.specs.View.{members_view, view}
use Rattle.agg_request.specs.reading.CompositeJson.{IsKeyJson}
use Rattle.agg_request.specs.ReadBack.{IsWritten}
use Rattle.agg_request.specs.WrittenJson.{data_of_key}
use Rattle.agg_request.proofs.WrittenMembers.{AreWrittenUpTo-more}
use Rattle.agg_request.proofs.writer.composite.write_after.Goals as goal

pub loop-name-preserved : goal.loop-name-preserved
loop-name-preserved c =
    let before = members_view c.loop-name.members.entries in
    let d = view c.in_ok-write_key.field-0 in
    AreWrittenUpTo-more (IsWritten data_of_key (IsKeyJson false)) c.args.after.now
    c.loop-name.name-iterator before
    (members_view c.put.new.map.entries) c.in-Some.name.now d c.in-Some.key.now c.next.new.self
    c.loop-name.invariant c.in-Some.ensures.steps c.in_ok-write_key.ensures
    (c.in_ok-put.ensures.ok ∙ ap (λ n. put n d before) c.as_str.ensures)
