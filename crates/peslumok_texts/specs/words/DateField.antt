-- The texts of `--date`: FIELD[=seconds|millis|nanos]
use Rattle.std.specs.Prelude.{◌≡◌, ◌<◌, ℕ, List, length, ◌==◌, if◌then◌else◌, option_map}
use Rattle.std.specs.Prelude.{Option, Some, None}
use Rattle.peslumok_texts.specs.dates.Units.{unit_of}
use Rattle.peslumok_texts.specs.declared.dates.unit.DateUnit.{DateUnit}
use Rattle.peslumok_texts.specs.words.Cut.{cut}
use Rattle.peslumok_texts.specs.declared.words.date_field.DateField.{DateField}
use Rattle.peslumok_texts.specs.declared.words.date_field.DateFieldError.{DateFieldError}
use Rattle.peslumok_texts.specs.declared.words.date_field.DateFieldError.TheVariants.{NoField}
use Rattle.peslumok_texts.specs.declared.words.date_field.DateFieldError.TheVariants.{UnknownUnit}

-- what a text stands for
pub record Parts : Type 0 where
  pub field : List ℕ
  pub unit : Option DateUnit

-- the unit after an equals sign, where one stands there
abbrev pub unit_after : Option (List ℕ) → Option (Option DateUnit)
unit_after None = Some None
unit_after (Some word) = option_map Some (unit_of word)

-- a field that is not empty, and its unit
abbrev pub with_unit : List ℕ × Option (List ℕ) → Option Parts
with_unit (field, word) =
    if length field == 0 then None
    else option_map (λ unit. record { field = field; unit = unit }) (unit_after word)

-- what a text stands for, if it is one of `--date`
abbrev pub date_field_of : List ℕ → Option Parts
date_field_of text = with_unit (cut 61 text)

-- why a text is none of `--date`: no field is named, or only its unit is unknown
abbrev pub IsDateFieldFault : List ℕ → DateFieldError → Type 0
IsDateFieldFault text NoField = length (cut 61 text).0 ≡ 0
IsDateFieldFault text UnknownUnit =
    (0 < length (cut 61 text).0) × (unit_after (cut 61 text).1 ≡ None)

-- what a contract sees of a field
abbrev pub parts : DateField → Parts
parts date = record { field = date.field.now; unit = date.unit }
