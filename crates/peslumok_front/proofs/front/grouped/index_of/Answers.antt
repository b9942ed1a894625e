use Rattle.std.proofs.Common.{subst}
use Rattle.peslumok_records.specs.held.Held.{held_documents}
use Rattle.agg_segment.specs.Snapshot.{snapshots_documents}
use Rattle.peslumok_records.specs.record_index.Index.{AreOneOf}
use Rattle.peslumok_front.proofs.lemmas.after_text.Passed.{cause-passed}
use Rattle.peslumok_front.proofs.lemmas.front.Failed.{no-records}
use Rattle.peslumok_front.proofs.front.grouped.index_of.Goals as goal

pub returns-clause-index : goal.returns-clause-index
returns-clause-index c = (
  held_documents c.in_ok-records.records,
  record {
    fields = c.in_ok-fields.fields;
    ask = c.in_ok-fields.ensures;
    are_documents = c.in_ok-records.ensures.held;
    unseen_is = c.in_ok-of.ensures.unseen;
  },
  subst (λ room. AreOneOf (held_documents c.in_ok-records.records) room
      (snapshots_documents c.in_ok-of.field-0.snapshots)) c.room-room.ensures
      c.in_ok-of.ensures.snapshots,
)

pub returns-in_err-records-clause-cause : goal.returns-in_err-records-clause-cause
returns-in_err-records-clause-cause c =
    cause-passed _ c.from_residual-in_err-records.result c.in_err-records.field-0.0
    c.from_residual-in_err-records.ensures.1
    (no-records c.args.files.items c.in_err-records.field-0.0 c.in_err-records.ensures.cause)
