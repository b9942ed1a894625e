use Rattle.std.proofs.Common.{◌≡◌, ◌∷◌, sym, ◌∙◌, subst}
use Rattle.std.proofs.lemmas.Result.{err_from_is_err_and, IfOk-weaker}
use Rattle.agg_segment.specs.Snapshot.{snapshots_documents}
use Rattle.agg_pages.specs.input_text.SnapshotLines.{AreSnapshots}
use Rattle.agg_pages.specs.input_text.Snapshots.{made_by, snapshots_made}
use Rattle.agg_pages.proofs.lemmas.input_text.SnapshotSteps.{HasTaken, HasTaken-all, HasTaken-first}
use Rattle.agg_pages.proofs.lemmas.input_text.SnapshotSteps.{HasTaken-more, HasTaken-refused}
use Rattle.agg_pages.proofs.input_text.snapshots.read_from.Goals as goal

pub loop-line-init : goal.loop-line-init
loop-line-init c = (
  tt,
  tt,
  subst (HasTaken (c.args.first.now ∷ c.args.lines) c.new-builder.result)
      (sym c.into_iter-line-iterator.ensures.into_iter_gives)
      (HasTaken-first c.args.first.now c.args.lines c.in_ok-page_size.page_size
      c.new-builder.result (sym c.begun_size.ensures ∙ c.in_ok-page_size.ensures.ok_part)
      c.new-builder.ensures.closed c.new-builder.ensures.current),
)

pub loop-line-preserved : goal.loop-line-preserved
loop-line-preserved c = (
  tt,
  tt,
  HasTaken-more (c.args.first.now ∷ c.args.lines) c.loop-line.builder c.add_line.new.self
      c.loop-line.line-iterator
      c.in-Some.line.now c.next.new.self c.loop-line.invariant.2 c.in-Some.ensures.steps
      c.in_ok-add_line.ensures.ok,
)

pub returns-in_err-add_line-clause-not_input : goal.returns-in_err-add_line-clause-not_input
returns-in_err-add_line-clause-not_input c = λ refused.
    let p = err_from_is_err_and c.from_residual-in_err-add_line.result
    c.from_residual-in_err-add_line.ensures.1 in
    HasTaken-refused (c.args.first.now ∷ c.args.lines) c.loop-line.builder
    c.loop-line.line-iterator c.in-Some.line.now
    c.next.new.self c.loop-line.invariant.2 c.in-Some.ensures.steps
    (c.in_err-add_line.ensures.not_input (cc (refused, p.1, p.2)))

pub returns-clause-ok : goal.returns-clause-ok
returns-clause-ok c =
    IfOk-weaker c.finish.result
    (λ snapshots. snapshots_documents snapshots ≡ snapshots_made (made_by c.loop-line.builder))
    (λ snapshots. AreSnapshots (c.args.first.now ∷ c.args.lines) (snapshots_documents snapshots))
    (λ snapshots. HasTaken-all (c.args.first.now ∷ c.args.lines) c.loop-line.builder
    c.loop-line.line-iterator (snapshots_documents snapshots) c.loop-line.invariant.2
    c.in-None.ensures.steps.0)
    c.finish.ensures.ok
