-- What a snapshot stands for: documents, as nothing else of it shows in results.
use Rattle.std.specs.Prelude.{ℕ, List}
use Rattle.agg_segment.specs.storage.Document.{Fields}

-- a snapshot as what it stands for: the documents of each segment, and the page size
pub record SnapshotDocuments : Type 0 where
  pub segments : List (List Fields)
  pub page_size : ℕ
