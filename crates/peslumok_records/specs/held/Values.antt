-- The values of asked fields, and the document that they make.
use Rattle.std.specs.Prelude.{◌≡◌, ◌++◌, ◌∷◌, ℕ, List, [], Option, Some, None, map, option_and_then}
use Rattle.std.specs.Prelude.{option_map, Result, Ok, Err}
use Rattle.agg_segment.specs.storage.Document.{Fields, key_of, meaning}
use Rattle.agg_segment.specs.declared.storage.document.FieldValue.{FieldValue}
use Rattle.agg_segment.specs.Segment.{Gathered, open_document, with_key}
use Rattle.peslumok_records.specs.declared.held.asked.AskedField.{AskedField}

-- the value that was read
abbrev pub value_read : {A E : Type 0} → Result A E → Option A
value_read (Ok value) = Some value
value_read (Err error) = None

-- the one value of a list
abbrev pub alone : {A : Type 0} → A → List A
alone x = x ∷ []

-- one list and then another, where both are there
abbrev pub joined : {A : Type 0} → Option (List A) → Option (List A) → Option (List A)
joined first next = option_and_then (λ xs. option_map (λ ys. xs ++ ys) next) first

-- these values, as they stand in a document under the name of their field
abbrev pub named_values : List ℕ → List FieldValue → List (List ℕ × FieldValue)
named_values name values = map (λ value. (name, value)) values

-- the values of these fields with their names, where all of them can be read
abbrev pub values_of_fields : (AskedField → Option (List FieldValue)) → List AskedField
    → Option (List (List ℕ × FieldValue))
values_of_fields values [] = Some []
values_of_fields values (field ∷ fields) =
    joined (option_map (named_values field.name) (values field)) (values_of_fields values fields)

-- the document of these fields, where all of their values can be read
abbrev pub document_of_fields : (AskedField → Option (List FieldValue)) → List AskedField
    → Option Fields
document_of_fields values fields = option_map meaning (values_of_fields values fields)

-- a document with these values added
abbrev pub with_values : List (List ℕ × FieldValue) → Fields → Fields
with_values [] document = document
with_values (p ∷ ps) document = with_values ps (with_key p.0 (key_of p.1) document)

-- the open document of a segment in the making has these values after those that it had
pub record Gains (values : Option (List (List ℕ × FieldValue))) (old new : Gathered) : Type 0
  where
    pub given : List (List ℕ × FieldValue)
    pub read : values ≡ Some given
    pub added : open_document new ≡ with_values given (open_document old)
