-- The snapshot of documents, and the fields that none of them has.
use Rattle.std.specs.Prelude.{◌≡◌, ◌∷◌, [], ℕ, List, Bool, filter, flat_map, map, not}
use Rattle.std.specs.List.{list_any}
use Rattle.agg_segment.specs.storage.Columns.{StoredColumn, column_keys}
use Rattle.agg_segment.specs.storage.Document.{Fields}
use Rattle.peslumok_records.specs.declared.held.asked.AskedField.{AskedField}
use Rattle.agg_segment.specs.Query.{holds, is_any}
use Rattle.agg_segment.specs.SnapshotDocuments.{SnapshotDocuments}

-- snapshots are one alone, which has these documents, in segments, and a page size
pub record AreOneOf (documents : List Fields) (page_size : ℕ) (snapshots : List SnapshotDocuments)
    : Type 0 where
  pub only : SnapshotDocuments
  pub alone : snapshots ≡ only ∷ []
  pub joined : flat_map (λ own. own) only.segments ≡ documents
  pub sized : only.page_size ≡ page_size

-- whether some document has a value in a field
abbrev pub is_seen : List Fields → List ℕ → Bool
is_seen documents field = list_any (holds is_any field) documents

-- the names of the asked fields in which no document has a value
abbrev pub unseen_names : List Fields → List AskedField → List (List ℕ)
unseen_names documents asked =
    filter (λ name. not (is_seen documents name)) (map (λ field. field.name) asked)

-- whether a column has a key of one of these documents
abbrev pub has_keys : StoredColumn → List ℕ → Bool
has_keys column docs = list_any (λ doc. list_any is_any (column_keys column doc)) docs
