use Rattle.std.proofs.Common.{◌≡◌, ◌==◌, ◌≤◌, List, ℕ}
use Rattle.std.specs.Io.KnownBytes.{Appends}
use Rattle.agg_segment.specs.storage.Document.{Fields}
use Rattle.agg_segment.specs.Snapshot.{snapshots_documents}
use Rattle.peslumok_records.specs.record_index.Index.{AreOneOf}
use Rattle.peslumok_front.specs.front.Pages.{room_of}
use Rattle.peslumok_front.proofs.lemmas.front.PageRuns.{Leads}
use Rattle.peslumok_front.proofs.front.pages.write_from.Given as goal

-- what is written so far leads from the first key to the next one, and no fault is forgotten
abbrev pub invariant-loop-number : goal.invariant-loop-number
invariant-loop-number g l = record {
  columns : l.writer.columns ≡ l.fn.writer.columns;
  output : l.writer.output ≡ l.fn.writer.output;
  leads : (documents : List Fields)
      → AreOneOf documents (room_of l.question.asked.now.pages)
      (snapshots_documents l.question.snapshots.now)
      → (before : List ℕ)
      × Appends (g.W.Sink.contents l.fn.sink) (g.W.Sink.contents l.sink) before
      × Leads l.question.asked.now.grouping l.question.query.now documents
      l.question.asked.now.pages l.fn.writer.output l.fn.writer.columns l.fn.first l.after
      (l.number == 0) before;
  later : g.W.Sink.faults l.fn.sink ≤ g.W.Sink.faults l.sink;
}
