use Rattle.std.proofs.Common.{◌++◌, ◌∙◌, arith, subst, sym}
use Rattle.std.proofs.KnownBytes.{Appends-trans}
use Rattle.agg_segment.specs.Snapshot.{snapshots_documents}
use Rattle.peslumok_records.specs.record_index.Index.{AreOneOf}
use Rattle.peslumok_front.proofs.lemmas.after_text.Passed.{cause-passed}
use Rattle.peslumok_front.specs.front.Pages.{room_of}
use Rattle.peslumok_front.proofs.lemmas.front.NoTexts.{no-page, not-taken-later}
use Rattle.peslumok_front.proofs.lemmas.front.OnePage.{page-at}
use Rattle.peslumok_front.proofs.lemmas.front.PageRuns.{run-end, run-more}
use Rattle.peslumok_front.proofs.front.pages.write_from.Goals as goal

pub returns-then-is_last-clause-written : goal.returns-then-is_last-clause-written
returns-then-is_last-clause-written g c = λ documents are.
    let question = c.args.question.now in
    let asked = question.asked.now in
    let kept = c.loop-number.invariant in
    let before = kept.leads documents are in
    let sent = c.in_ok-send_page.ensures.text in
    let is_page = page-at asked.grouping question.query.now
    (snapshots_documents question.snapshots.now) c.room-room.result (room_of asked.pages)
    c.loop-number.after c.in_ok-page.page documents c.room-room.ensures c.in_ok-page.ensures.page
    are in (
      before.0 ++ sent.0,
      Appends-trans _ _ _ before.0 sent.0 before.1 sent.1,
      run-end asked.grouping question.query.now documents asked.pages c.args.writer.output
          c.loop-number.writer.output c.args.writer.columns c.loop-number.writer.columns
          kept.output kept.columns c.args.first c.loop-number.after c.in_ok-after.after
          c.in_ok-page.page c.in_ok-after.ensures c.loop-number.number c.is_last-is_last.result
          c.is_last-is_last.ensures before.0 sent.0 before.2 is_page sent.2 c.if-is_last.true,
    )

pub loop-number-preserved : goal.loop-number-preserved
loop-number-preserved g c = record {
  columns = c.in_ok-send_page.ensures.columns ∙ c.loop-number.invariant.columns;
  output = c.in_ok-send_page.ensures.output ∙ c.loop-number.invariant.output;
  leads = λ documents are.
      let question = c.args.question.now in
      let asked = question.asked.now in
      let kept = c.loop-number.invariant in
      let before = kept.leads documents are in
      let sent = c.in_ok-send_page.ensures.text in
      let is_page = page-at asked.grouping question.query.now
      (snapshots_documents question.snapshots.now) c.room-room.result (room_of asked.pages)
      c.loop-number.after c.in_ok-page.page documents c.room-room.ensures c.in_ok-page.ensures.page
      are in (
        before.0 ++ sent.0,
        Appends-trans _ _ _ before.0 sent.0 before.1 sent.1,
        run-more asked.grouping question.query.now documents asked.pages c.args.writer.output
            c.loop-number.writer.output c.args.writer.columns c.loop-number.writer.columns
            kept.output kept.columns c.args.first c.loop-number.after c.in_ok-after.after
            c.in_ok-page.page c.in_ok-after.ensures c.loop-number.number c.is_last-is_last.result
            c.is_last-is_last.ensures before.0 sent.0 before.2 is_page sent.2 c.if-is_last.false,
      );
  later = omega (arith, c.loop-number.invariant.later, c.in_ok-send_page.ensures.later);
}

pub returns-in_err-page-clause-cause : goal.returns-in_err-page-clause-cause
returns-in_err-page-clause-cause g c =
    let question = c.args.question.now in
    let asked = question.asked.now in
    cause-passed _ c.from_residual.result _ c.from_residual.ensures.1
    (λ documents are. no-page asked question.query.now documents _ c.room-room.result
    c.loop-number.after c.in_err-page.field-0.0 c.room-room.ensures
    (c.in_err-page.ensures.cause documents
    (subst (λ size. AreOneOf documents size (snapshots_documents question.snapshots.now))
    (sym c.room-room.ensures) are)))

pub returns-in_err-send_page-clause-cause : goal.returns-in_err-send_page-clause-cause
returns-in_err-send_page-clause-cause g c =
    let question = c.args.question.now in
    cause-passed _ c.from_residual-in_err-send_page.result _
    c.from_residual-in_err-send_page.ensures.1
    (λ documents are. not-taken-later question.asked.now question.query.now documents _ _ _
    c.in_err-send_page.field-0.0 c.loop-number.invariant.later c.in_err-send_page.ensures.cause)
