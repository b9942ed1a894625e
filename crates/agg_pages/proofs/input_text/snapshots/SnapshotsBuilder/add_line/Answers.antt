use Rattle.std.proofs.Common.{sym, ◌∙◌}
use Rattle.std.proofs.lemmas.Bool.{false≢true}
use Rattle.std.proofs.lemmas.Result.{on_ok_weaker}
use Rattle.agg_pages.proofs.lemmas.input_text.SnapshotSteps.{cannot_hold, took_begins, took_holds}
use Rattle.agg_pages.proofs.lemmas.input_text.SnapshotSteps.{took_opens}
use Rattle.agg_pages.proofs.input_text.snapshots.SnapshotsBuilder.add_line.Goals as goal

pub returns-then-is_snapshot_line-clause-ok : goal.returns-then-is_snapshot_line-clause-ok
returns-then-is_snapshot_line-clause-ok c =
    on_ok_weaker c.begin.result
    (took_begins c.args.line.now c.args.self.now c.requires c.in_ok-page_size.page_size
    c.begin.new.self (sym c.begun_size.ensures ∙ c.in_ok-page_size.ensures.ok_part))
    c.begin.ensures.ok

pub returns-then-is_segment_line-clause-ok : goal.returns-then-is_segment_line-clause-ok
returns-then-is_segment_line-clause-ok c =
    on_ok_weaker c.open_segment.result
    (took_opens c.args.line.now c.args.self.now c.requires c.open_segment.new.self
    (c.is_segment_line.ensures.0 c.if-is_segment_line.true))
    c.open_segment.ensures.ok

pub returns-clause-ok : goal.returns-clause-ok
returns-clause-ok c =
    on_ok_weaker c.read_document.result
    (took_holds c.args.line.now c.args.self.now c.requires c.read_document.new.builder
    c.read_document.new.room (sym c.is_snapshot_line.ensures ∙ c.if-is_snapshot_line.false))
    c.read_document.ensures.ok

pub returns-clause-not_input : goal.returns-clause-not_input
returns-clause-not_input c = λ refused.
    cannot_hold c.args.line.now c.args.self.now c.requires
    (sym c.is_snapshot_line.ensures ∙ c.if-is_snapshot_line.false)
    (λ is. false≢true (sym c.if-is_segment_line.false ∙ c.is_segment_line.ensures.1 is))
    (c.read_document.ensures.not_input refused)
