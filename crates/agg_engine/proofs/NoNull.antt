-- The documents of segments hold no Null.
use Rattle.std.proofs.Common.{◌≢◌, ℕ, ◌^◌, pos, List, [], Option, None, Some, map, filter}
use Rattle.std.specs.Prelude.{int_lt, unsigned_abs}
use Rattle.std.specs.Option.{option_map_or}
use Rattle.std.specs.List.{All, AllByRecursion, flat_map}
use Rattle.std.proofs.lemmas.Bool.{cond_both}
use Rattle.std.proofs.lemmas.List.Elements.{All-filter, All-map, All-nil, All-from_recursion}
use Rattle.agg_values.specs.declared.typed_key.CompositeIntermediateKey.TheVariants as key
use Rattle.agg_segment.specs.storage.Cells.{Placed, is_at, keys_at, number_of}
use Rattle.agg_segment.specs.storage.Columns.{StoredColumn, column_cells, encoded_key}
use Rattle.agg_segment.specs.Query.{matches}
use Rattle.agg_segment.specs.Segment.{Stored, document_at, documents_of}
use Rattle.agg_segment.specs.declared.storage.keys.ColumnKeys.{ColumnKeys}
use Rattle.agg_segment.specs.declared.storage.keys.ColumnKeys.TheVariants.{Bools, Texts, Signed}
use Rattle.agg_segment.specs.declared.storage.keys.ColumnKeys.TheVariants.{Unsigned, Addresses}
use Rattle.agg_segment.specs.declared.storage.keys.ColumnKeys.TheVariants.{Dates}
use Rattle.agg_segment.specs.declared.query.QueryTree.{QueryTree}
use Rattle.agg_request_tree.proofs.Lists.{AllByRecursion-always, AllByRecursion-flat_map}
use Rattle.agg_request_tree.proofs.Lists.{AllByRecursion-map}
use Rattle.agg_segment.specs.Snapshot.{snapshot_documents}
use Rattle.agg_engine.specs.Walk.{documents_in, matching_documents}
use Rattle.agg_segment.specs.declared.snapshot.Snapshot.{Snapshot}
use Rattle.agg_engine.proofs.AfterKeys.{HasNoNull}

-- a key that a number stands for
encoded_key-not_Null : (keys : ColumnKeys) (n : ℕ) → encoded_key keys n ≢ key.Null
encoded_key-not_Null Bools n same = cc same
encoded_key-not_Null (Texts texts) n same = cc same
encoded_key-not_Null Signed n same = cc same
encoded_key-not_Null Unsigned n same =
    cond_both (int_lt (pos n) (pos (2 ^ 63))) (key.I64 (pos n)) (key.U64 (unsigned_abs (pos n)))
    (λ k. k ≢ key.Null) (λ _ same. cc same) (λ _ same. cc same) same
encoded_key-not_Null (Addresses addresses) n same = cc same
encoded_key-not_Null Dates n same = cc same

-- the keys of all columns
cells-not_Null : (columns : List StoredColumn)
    → AllByRecursion (λ p. p.key ≢ key.Null) (flat_map column_cells columns)
cells-not_Null columns =
    AllByRecursion-flat_map (λ p. p.key ≢ key.Null) column_cells columns
    (AllByRecursion-always (λ c. AllByRecursion (λ p. p.key ≢ key.Null) (column_cells c)) (λ c.
    AllByRecursion-map (λ p. p.key ≢ key.Null) _ c.cells
    (AllByRecursion-always _ (λ n. encoded_key-not_Null c.keys n.1) c.cells)) columns)

-- the document of a number
document-no_Null : (segment : Stored) (doc : ℕ) → HasNoNull (document_at segment doc)
document-no_Null segment doc name = by_number (number_of segment.names name)
  where
    cells : List Placed
    cells = flat_map column_cells segment.columns

    by_number : (number : Option ℕ)
        → All (λ k. k ≢ key.Null) (option_map_or (λ field. keys_at cells field doc) number [])
    by_number None = All-nil (λ k. k ≢ key.Null)
    by_number (Some field) =
        All-map (λ k. k ≢ key.Null) (λ p. p.key) (filter (is_at field doc) cells)
        (All-filter (is_at field doc) (λ p. p.key ≢ key.Null) cells
        (All-from_recursion (λ p. p.key ≢ key.Null) cells (cells-not_Null segment.columns)))

documents-no_Null : (segment : Stored) → AllByRecursion HasNoNull (documents_of segment)
documents-no_Null segment =
    AllByRecursion-map HasNoNull (document_at segment) _
    (AllByRecursion-always (λ doc. HasNoNull (document_at segment doc))
    (document-no_Null segment) _)

-- the documents of a snapshot that a query matches
pub matching-no_Null : (query : QueryTree) (snapshot : Snapshot)
    → All HasNoNull (matching_documents query (snapshot_documents snapshot))
matching-no_Null query snapshot =
    All-filter (matches query) HasNoNull (documents_in (snapshot_documents snapshot))
    (All-from_recursion HasNoNull (documents_in (snapshot_documents snapshot))
    (AllByRecursion-flat_map HasNoNull (λ documents. documents)
    (map documents_of snapshot.segments)
    (AllByRecursion-map (AllByRecursion HasNoNull) documents_of snapshot.segments
    (AllByRecursion-always (λ s. AllByRecursion HasNoNull (documents_of s)) documents-no_Null
    snapshot.segments))))
