use Rattle.std.proofs.Common.{sym}
use Rattle.agg_segment.specs.Snapshot.{snapshots_documents}
use Rattle.agg_engine.proofs.Snapshots.{have_room, no_room-some}
use Rattle.agg_check.proofs.Verdicts.{crowded}
use Rattle.agg_check.proofs.verdict.later_refusal.Goals as goal

pub returns-then-some_page_has_no_room : goal.returns-then-some_page_has_no_room
returns-then-some_page_has_no_room c =
    let snapshots = c.args.input.now.snapshots in
    λ asked. crowded (snapshots_documents snapshots)
    (no_room-some snapshots c.as_slice.result.now c.as_slice.ensures
    (sym c.if-some_page_has_no_room.ensures)) asked.room

pub returns : goal.returns
returns c =
    let snapshots = c.args.input.now.snapshots in
    record {
      sound = c.requires;
      room = have_room snapshots c.as_slice.result.now c.as_slice.ensures
          (sym c.if-some_page_has_no_room.ensures);
      named = c.if-not-names_composite.ensures;
      each = c.if-lacks_query.ensures;
    }
