-- The values of cells for asked fields, and the document of a row.
use Rattle.std.specs.Prelude.{◌+◌, ℕ, List, [], ◌∷◌}
use Rattle.std.specs.Prelude.{Option, Some, None, option_and_then, option_map}
use Rattle.std.specs.Prelude.{slice_get}
use Rattle.csv.specs.Records.{field_at}
use Rattle.agg_segment.specs.storage.Document.{Fields, meaning}
use Rattle.agg_segment.specs.declared.storage.document.FieldValue.{FieldValue}
use Rattle.peslumok_texts.specs.fields.Values.{text_value}
use Rattle.peslumok_texts.specs.declared.fields.field_type.FieldType.{FieldType}
use Rattle.peslumok_records.specs.held.Values.{alone, joined, named_values, value_read}
use Rattle.peslumok_records.specs.declared.held.asked.AskedField.{AskedField}

-- the values of a cell: an empty one has none
abbrev pub cell_values : FieldType → List ℕ → Option (List FieldValue)
cell_values of [] = Some []
cell_values of (b ∷ bytes) = option_map alone (value_read (text_value of (b ∷ bytes)))

-- the values of a cell that may be missing
abbrev pub values_at : FieldType → Option (List ℕ) → Option (List FieldValue)
values_at of None = Some []
values_at of (Some bytes) = cell_values of bytes

-- the cell of a row at the place of a field
abbrev pub cell_at : List (Option ℕ) → ℕ → List (List ℕ) → Option (List ℕ)
cell_at places index cells =
    option_and_then (λ place. option_and_then (field_at cells) place) (slice_get places index)

-- the values of the fields from one on, each at its place in a row
abbrev pub values_from : ℕ → List AskedField → List (Option ℕ) → List (List ℕ)
    → Option (List (List ℕ × FieldValue))
values_from index [] places cells = Some []
values_from index (field ∷ fields) places cells =
    joined (option_map (named_values field.name) (values_at field.of (cell_at places index cells)))
    (values_from (index + 1) fields places cells)

-- the values of the asked fields in a row
abbrev pub values_of_row : List AskedField → List (Option ℕ) → List (List ℕ)
    → Option (List (List ℕ × FieldValue))
values_of_row asked places cells = values_from 0 asked places cells

-- the document of a row
abbrev pub row_document : List AskedField → List (Option ℕ) → List (List ℕ) → Option Fields
row_document asked places cells = option_map meaning (values_of_row asked places cells)
