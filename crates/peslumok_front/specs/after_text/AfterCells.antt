-- The texts of the keys of an after key, as cells of a line of CSV.
use Rattle.std.specs.Prelude.{◌≡◌, ◌≢◌, ◌∷◌, [], ℕ, List}
use Rattle.csv.specs.Reading.{strip_bom}
use Rattle.agg_values.specs.Names.{Named}
use Rattle.agg_values.specs.declared.after_key.AfterKey.{AfterKey}
use Rattle.peslumok_texts.specs.fields.Types.{type_of}
use Rattle.peslumok_texts.specs.declared.fields.field_type.FieldType.{FieldType}
use Rattle.peslumok_texts.specs.declared.words.by.BySpec.{BySpec}
use Rattle.peslumok_front.specs.after_text.After.{ReadsAs}

-- a text that shows as a cell wherever it stands: it isn't empty, and begins with no byte order
-- mark
abbrev pub IsCell : List ℕ → Type 0
IsCell text = (text ≢ []) × (strip_bom text ≡ text)

-- these are the texts of keys, each a cell that is read as the key of its source
abbrev pub AreTextsOf : Named FieldType → List BySpec → List AfterKey → List (List ℕ) → Type 0
AreTextsOf types [] keys texts = texts ≡ []
AreTextsOf types (by ∷ sources) [] texts = texts ≡ []
AreTextsOf types (by ∷ sources) (key ∷ keys) [] = ⊥
AreTextsOf types (by ∷ sources) (key ∷ keys) (text ∷ texts) =
    IsCell text × ReadsAs (type_of types by.field.now) text key.0
    × AreTextsOf types sources keys texts
