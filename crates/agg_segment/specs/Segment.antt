-- What segments mean: lists of documents.
use Rattle.std.specs.Prelude.{◌≡◌, ◌<◌, ◌≤◌, ◌==◌, ℕ, List, [], ◌∷◌, ◌++◌, Some, if◌then◌else◌}
use Rattle.std.specs.Prelude.{filter, map, flat_map, length, take, drop}
use Rattle.std.specs.Option.{option_map_or}
use Rattle.std.specs.Str.{bytes_eq}
use Rattle.std.specs.List.{range_with_len, All}
use Rattle.agg_segment.specs.storage.Document.{Fields, by_class}
use Rattle.agg_segment.specs.storage.Cells.{Placed, number_of, named_keys}
use Rattle.agg_segment.specs.Gatherings.{Raw, raw_placed}
use Rattle.agg_segment.specs.SegmentLimits.{max_documents}
use Rattle.agg_segment.specs.storage.Runs.{Logged, open_cells}
use Rattle.agg_segment.specs.storage.Signs.{key_mark, AreSigns}
use Rattle.agg_segment.specs.storage.Columns.{StoredColumn, column_cells}
use Rattle.agg_segment.specs.storage.GatheredNumbers.{IsRaw}
use Rattle.agg_segment.specs.declared.storage.sign.Sign.{Sign}
use Rattle.agg_values.specs.Names.{Named}
use Rattle.agg_values.specs.TypedKey.{CompositeIntermediateKey}

-- what a builder holds: how many documents are closed, the numbers of the fields, and the keys of
-- all documents
pub record Gathered : Type 0 where
  pub count : ℕ
  pub names : Named ℕ
  pub cells : List Placed

-- a document that is closed, or the open one at the count
abbrev pub gathered_fields : Gathered → ℕ → Fields
gathered_fields builder doc field = by_class (named_keys builder.names builder.cells doc field)

-- a name is that of a field with this number
abbrev pub IsNameOf : Gathered → ℕ → List ℕ → Type 0
IsNameOf builder field name = number_of builder.names name ≡ Some field

-- the documents that are closed
abbrev pub gathered_documents : Gathered → List Fields
gathered_documents builder = map (gathered_fields builder) (range_with_len 0 builder.count)

-- the open document
abbrev pub open_document : Gathered → Fields
open_document builder = gathered_fields builder builder.count

-- no keys
abbrev pub no_fields : Fields
no_fields name = []

-- one more key in a field
abbrev pub with_key : List ℕ → CompositeIntermediateKey → Fields → Fields
with_key field key document name =
    if bytes_eq field name then by_class (document name ++ key ∷ []) else document name

-- what a segment holds: how many documents, the numbers of the fields, and the columns
pub record Stored : Type 0 where
  pub count : ℕ
  pub names : Named ℕ
  pub columns : List StoredColumn

-- the document of a number
abbrev pub document_at : Stored → ℕ → Fields
document_at segment doc field =
    named_keys segment.names (flat_map column_cells segment.columns) doc field

-- the columns of a field: those with its number, and none where the name has no number
abbrev pub columns_in : Stored → List ℕ → List StoredColumn
columns_in segment field =
    option_map_or (λ number. filter (λ c. c.field == number) segment.columns)
    (number_of segment.names field) []

-- the documents of these numbers
abbrev pub documents_at : Stored → List ℕ → List Fields
documents_at segment docs = map (document_at segment) docs

-- the documents of a segment
abbrev pub documents_of : Stored → List Fields
documents_of segment = documents_at segment (range_with_len 0 segment.count)

-- what is true of a builder: its closed documents come first, each field has one name and number,
-- and its signs are those of the closed documents
pub record IsGathered (builder : Gathered) (given : List Sign) (closed : ℕ) : Type 0 where
  pub few : builder.count ≤ max_documents
  pub within : closed ≤ length builder.cells
  pub before : All (λ p. p.doc < builder.count) (take closed builder.cells)
  pub after : All (λ p. p.doc ≡ builder.count) (drop closed builder.cells)
  pub numbered : (name : List ℕ) (field : ℕ) → IsNameOf builder field name → field < length given
  pub apart : (name other : List ℕ) (field : ℕ)
      → IsNameOf builder field name → IsNameOf builder field other → name ≡ other
  pub named : (field : ℕ) → field < length given → (name : List ℕ) × IsNameOf builder field name
  pub fields : All (λ p. p.field < length given) builder.cells
  pub signs : AreSigns given (map key_mark (take closed builder.cells))

-- the keys of a builder: those of the closed documents, and then those of the open one
abbrev pub builder_cells : ℕ → List Sign → List Raw → Logged → List Placed
builder_cells count signs columns log =
    map (raw_placed signs log.texts log.addresses) columns ++ open_cells count log

-- what is true of a builder, by its parts
abbrev pub IsBuilding
    : ℕ → Named ℕ → List Sign → List Raw → Logged → Type 0
IsBuilding count names signs columns log =
    IsGathered
    (record { count = count; names = names; cells = builder_cells count signs columns log })
    signs (length columns)
    × All (λ r. IsRaw (length log.texts) (length log.addresses) r.class r.number) columns
