-- A truth value for each document of a segment.
use Rattle.std.specs.Prelude.{◌≡◌, ◌<◌, ◌≤◌, ℕ, List, Bool, false, length, get_or}
use Rattle.std.specs.List.{list_any, filter, range_with_len}
use Rattle.agg_values.specs.TypedKey.{CompositeIntermediateKey}
use Rattle.agg_segment.specs.storage.Document.{Fields}
use Rattle.agg_segment.specs.Segment.{Stored, document_at, documents_of}
use Rattle.agg_segment.specs.SegmentLimits.{max_documents}
use Rattle.agg_segment.specs.storage.Columns.{StoredColumn, column_keys}
use Rattle.agg_segment.specs.Query.{is_any, is_value, is_between}
use Rattle.agg_segment.specs.declared.query.key_test.KeyTest.{KeyTest}
use Rattle.agg_segment.specs.declared.query.key_test.KeyTest.TheVariants.{Any, Value, Between}

-- whether a key passes a test
abbrev pub passes : KeyTest → CompositeIntermediateKey → Bool
passes Any = is_any
passes (Value value) = is_value value.now
passes (Between lower upper) = is_between lower.now upper.now

-- the mark of a document
abbrev pub mark_at : List Bool → ℕ → Bool
mark_at marks doc = get_or marks doc false

-- one mark for each document, which says whether the document is such
pub record AreMarks (is_such : Fields → Bool) (segment : Stored) (marks : List Bool) : Type 0 where
  pub each : length marks ≡ length (documents_of segment)
  pub few : length marks ≤ max_documents
  pub told : (doc : ℕ) → doc < length marks → mark_at marks doc ≡ is_such (document_at segment doc)

-- whether a document has such a key in a column
abbrev pub has_key : (CompositeIntermediateKey → Bool) → ℕ → StoredColumn → Bool
has_key is_such doc column = list_any is_such (column_keys column doc)

-- the documents with a mark, ascending
abbrev pub marked_docs : List Bool → List ℕ
marked_docs marks = filter (mark_at marks) (range_with_len 0 (length marks))
