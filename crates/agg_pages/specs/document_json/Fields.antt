-- Values of a field, put into a document.
use Rattle.std.specs.Prelude.{◌≡◌, ℕ, List, ◌++◌, map}
use Rattle.serde_json.specs.Data.{Data}
use Rattle.agg_segment.specs.storage.Document.{key_of}
use Rattle.agg_segment.specs.declared.storage.document.FieldValue.{FieldValue}
use Rattle.agg_pages.specs.document_json.DocumentLine.{HaveKeys}

-- these values, as they stand in a document under the name of their field
abbrev pub named_values : List ℕ → List FieldValue → List (List ℕ × FieldValue)
named_values field values = map (λ value. (field, value)) values

-- a document has these values after those that it had
pub record AddsValues (field : List ℕ) (written : List Data) (old new : List (List ℕ × FieldValue))
    : Type 0 where
  pub values : List FieldValue
  pub keys : HaveKeys written (map key_of values)
  pub added : new ≡ old ++ named_values field values
