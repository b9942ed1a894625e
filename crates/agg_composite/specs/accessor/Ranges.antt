-- Starts of buckets of what columns hold, and of what sources read, within i64.
use Rattle.std.specs.Prelude.{◌≡◌, ℕ, List, All, Option, filter, true}
use Rattle.agg_values.specs.TypedKey.{CompositeIntermediateKey}
use Rattle.agg_segment.specs.storage.Columns.{StoredColumn, column_keys, encoded_key}
use Rattle.agg_segment.specs.declared.storage.keys.ColumnKeys.{ColumnKeys}
use Rattle.agg_segment.specs.Segment.{Stored, documents_at}
use Rattle.agg_request_tree.specs.Source.{Sources, is_from, min_of}
use Rattle.agg_request_tree.specs.declared.source.CompositeAggregationSource as kind
use kind.{CompositeAggregationSource}
use Rattle.agg_request_tree.specs.Ranges.{AreInRange, IsWithin}
use Rattle.agg_composite.specs.accessor.Least.{is_number_from}
use Rattle.agg_composite.specs.accessor.Starts.{divided, divisor_of}
use Rattle.agg_composite.specs.declared.accessor.accessor.CompositeAccessor.{CompositeAccessor}
use Rattle.agg_composite.specs.declared.accessor.after_key.PrecomputedAfterKey.{PrecomputedAfterKey}
use Rattle.agg_composite.specs.declared.accessor.divisor.Divisor.{Divisor}

-- the start of a key's bucket lies within i64, if it has one
abbrev pub IsKeyWithin : Divisor → CompositeIntermediateKey → Type 0
IsKeyWithin divisor k = IsWithin (divided divisor k)

-- the start of a column's number lies within i64, where the number isn't below a place
abbrev pub IsNumberWithin : Divisor → ColumnKeys → PrecomputedAfterKey → ℕ → Type 0
IsNumberWithin divisor keys least number =
    is_number_from least number ≡ true → IsKeyWithin divisor (encoded_key keys number)

-- the starts of a column's numbers lie within i64, of those that aren't below a place
abbrev pub AreNumbersWithin : Divisor → ColumnKeys → PrecomputedAfterKey → List ℕ → Type 0
AreNumbersWithin divisor keys least numbers = All (IsNumberWithin divisor keys least) numbers

-- the starts of a document's keys in a column lie within i64, of keys that aren't below a least one
unfoldable pub IsDocumentWithin : Option CompositeIntermediateKey → Divisor → StoredColumn → ℕ
    → Type 0
IsDocumentWithin min divisor column doc =
    All (IsKeyWithin divisor) (filter (is_from min) (column_keys column doc))

-- the starts of documents' keys in a column lie within i64, of keys that aren't below a least one
abbrev pub IsColumnWithin : Option CompositeIntermediateKey → Divisor → StoredColumn → List ℕ
    → Type 0
IsColumnWithin min divisor column docs = All (IsDocumentWithin min divisor column) docs

-- what an accessor divides its source's values by
abbrev pub divisor_at : CompositeAggregationSource → CompositeAccessor → Divisor
divisor_at source a = divisor_of source a.date_histogram_interval a.date_offset_ns

-- the starts of a source in the columns of its accessors lie within i64
abbrev pub AreColumnsWithin : CompositeAggregationSource → List CompositeAccessor → List ℕ → Type 0
AreColumnsWithin source accessors docs =
    All
    (λ a. IsColumnWithin (min_of source) (divisor_at source a) a.column.now docs)
    accessors

-- the starts that sources read in documents of these numbers lie within i64
abbrev pub AreAllInRange : Stored → Sources → List ℕ → Type 0
AreAllInRange segment sources docs = All (AreInRange sources) (documents_at segment docs)
