-- The texts of `--decimal`: FIELD=PLACES
use Rattle.std.specs.Prelude.{◌≡◌, ◌≤◌, ◌<◌, ℕ, List, length, Some, None, IsSomeAnd}
use Rattle.std.specs.Str.Parse.{IsNumeral, digits_value, without_leading_plus}
use Rattle.peslumok_texts.specs.words.Cut.{cut}
use Rattle.peslumok_texts.specs.declared.words.decimal_field.DecimalFieldError.{DecimalFieldError}
use Rattle.peslumok_texts.specs.declared.words.decimal_field.DecimalFieldError.TheVariants as error

-- digits write a number of places, 18 at most
pub record IsPlaces (text : List ℕ) (places : ℕ) : Type 0 where
  pub numeral : IsNumeral 10 (without_leading_plus text)
  pub value : digits_value 10 (without_leading_plus text) ≡ places
  pub most : places ≤ 18

-- a text names a field, and after the first equals sign its places
pub record IsDecimalField (text field : List ℕ) (places : ℕ) : Type 0 where
  pub digits : List ℕ
  pub is_cut : cut 61 text ≡ (field, Some digits)
  pub some_field : 0 < length field
  pub writes_places : IsPlaces digits places

-- why a text is none of `--decimal`: no field is named, or else nothing stands after an equals
-- sign, or what stands there is no number of places
abbrev pub IsDecimalFieldFault : List ℕ → DecimalFieldError → Type 0
IsDecimalFieldFault text error.NoField = length (cut 61 text).0 ≡ 0
IsDecimalFieldFault text error.NoPlaces =
    (0 < length (cut 61 text).0) × ((cut 61 text).1 ≡ None)
IsDecimalFieldFault text error.NotPlaces =
    (0 < length (cut 61 text).0)
    × IsSomeAnd (cut 61 text).1 (λ digits. (n : ℕ) → ¬ IsPlaces digits n)
