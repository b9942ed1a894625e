-- The fields that are asked for.
use Rattle.std.specs.Prelude.{◌≡◌, ◌==◌, ◌⊎◌, ◌++◌, ◌∷◌, [], ℕ, List, Any}
use Rattle.std.specs.List.{slice_split}
use Rattle.peslumok_texts.specs.declared.fields.field_type.FieldType.{FieldType}
use Rattle.peslumok_records.specs.declared.held.asked.AskedField.{AskedField}

-- a name cut at its points
abbrev pub path_of : List ℕ → List (List ℕ)
path_of name = slice_split (λ b. b == 46) name

-- the path of a field is its name cut at its points
abbrev pub IsCut : AskedField → Type 0
IsCut field = field.path.items ≡ path_of field.name

-- a field of this name is among these
abbrev pub IsAsked : List ℕ → List AskedField → Type 0
IsAsked name fields = Any (λ field. field.name ≡ name) fields

-- a field of this name and type stands at the end
pub record StandsLast (name : List ℕ) (of : FieldType) (old new : List AskedField)
    : Type 0 where
  pub field : AskedField
  pub named : field.name ≡ name
  pub holds : field.of ≡ of
  pub added : new ≡ old ++ field ∷ []

-- a name was there already, or its field stands at the end
abbrev pub Asks : List ℕ → FieldType → List AskedField → List AskedField → Type 0
Asks name of old new =
    (IsAsked name old × (new ≡ old)) ⊎ (¬ (IsAsked name old) × StandsLast name of old new)
