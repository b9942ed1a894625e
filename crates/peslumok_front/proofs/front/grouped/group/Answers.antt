use Rattle.std.proofs.Common.{List, subst, sym, ℕ}
use Rattle.std.specs.Global.{Vec}
use Rattle.agg_segment.specs.Snapshot.{snapshots_documents}
use Rattle.agg_segment.specs.declared.snapshot.Snapshot.{Snapshot}
use Rattle.peslumok_records.specs.record_index.Index.{AreOneOf}
use Rattle.peslumok_front.proofs.lemmas.after_text.Passed.{cause-passed}
use Rattle.peslumok_front.specs.front.Answer.{AreRead, IsWritten}
use Rattle.peslumok_front.specs.front.Pages.{room_of}
use Rattle.peslumok_front.proofs.lemmas.front.Failed.{files-failed, query-failed, text-failed}
use Rattle.peslumok_front.proofs.front.grouped.group.Goals as goal

pub returns-clause-answered : goal.returns-clause-answered
returns-clause-answered g c =
    let asked = c.args.asked.now in
    let read = c.in_ok-index.ensures.index in
    let run = c.in_ok-next.ensures.written read.0
    (subst (λ (snapshots : List Snapshot). AreOneOf read.0 (room_of asked.pages)
    (snapshots_documents snapshots)) (sym c.snapshots.ensures) read.2) in
    record {
      query = c.in_ok-query.query;
      is_query = c.in_ok-query.ensures.met;
      documents = read.0;
      are_read = subst (λ (unseen : Vec (List ℕ)). AreRead asked.grouping c.in_ok-query.query
          c.args.files.items read.0 unseen.items) (sym c.into_report.ensures.unseen) read.1;
      text = run.0;
      is_written = subst (λ told. IsWritten asked.pages.top asked c.in_ok-query.query read.0 told
          run.0) (sym c.into_report.ensures.next) run.2;
      taken = run.1;
    }

pub returns-in_err-query-clause-cause : goal.returns-in_err-query-clause-cause
returns-in_err-query-clause-cause g c =
    cause-passed _ c.from_residual.result _ c.from_residual.ensures.1
    (query-failed c.args.asked.now c.args.files.items _ c.in_err-query.field-0.0
    c.in_err-query.ensures.cause)

pub returns-in_err-index-clause-cause : goal.returns-in_err-index-clause-cause
returns-in_err-index-clause-cause g c =
    cause-passed _ c.from_residual-in_err-index.result _ c.from_residual-in_err-index.ensures.1
    (files-failed c.args.asked.now c.args.files.items _ c.in_err-index.field-0.0
    c.in_err-index.ensures.cause)

pub returns-in_err-next-clause-cause : goal.returns-in_err-next-clause-cause
returns-in_err-next-clause-cause g c =
    let asked = c.args.asked.now in
    let read = c.in_ok-index.ensures.index in
    cause-passed _ c.from_residual-in_err-next.result _ c.from_residual-in_err-next.ensures.1
    (text-failed asked c.args.files.items _ c.in_ok-query.query read.0 _
    c.in_ok-query.ensures.met read.1 c.in_err-next.field-0.0
    (c.in_err-next.ensures.cause read.0
    (subst (λ (snapshots : List Snapshot). AreOneOf read.0 (room_of asked.pages)
    (snapshots_documents snapshots)) (sym c.snapshots.ensures) read.2)))
