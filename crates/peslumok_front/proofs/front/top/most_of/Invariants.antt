use Rattle.std.proofs.Common.{◌≡◌, List}
use Rattle.agg_segment.specs.storage.Document.{Fields}
use Rattle.agg_segment.specs.Snapshot.{snapshots_documents}
use Rattle.peslumok_records.specs.record_index.Index.{AreOneOf}
use Rattle.peslumok_front.specs.front.Pages.{room_of}
use Rattle.peslumok_front.proofs.lemmas.front.TopRuns.{Leads}
use Rattle.peslumok_front.proofs.front.top.most_of.Given as goal

-- the pages so far lead from the first key to the next one, and their groups are added
abbrev pub invariant-loop-number : goal.invariant-loop-number
invariant-loop-number l = record {
  count : l.groups.count ≡ l.fn.count;
  leads : (documents : List Fields)
      → AreOneOf documents (room_of l.question.asked.now.pages)
      (snapshots_documents l.question.snapshots.now)
      → Leads l.question.asked.now.grouping l.question.query.now documents
      (room_of l.question.asked.now.pages) l.fn.count l.fn.first l.after l.groups.groups.items;
}
