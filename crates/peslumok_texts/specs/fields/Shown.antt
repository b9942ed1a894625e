-- The texts of values, by the type of their field.
use Rattle.std.specs.Prelude.{◌≡◌, ℕ, ℤ, pos, ◌*ℤ◌, List, [], Bool, if◌then◌else◌, codes, is_ok}
use Rattle.std.specs.Prelude.{MatchBool}
use Rattle.std.specs.Fmt.{signed_decimal}
use Rattle.agg_values.specs.Address.{address_text}
use Rattle.agg_values.specs.declared.typed_key.CompositeIntermediateKey.{CompositeIntermediateKey}
use Rattle.agg_values.specs.declared.typed_key.CompositeIntermediateKey.TheVariants as key
use Rattle.agg_values.specs.declared.composite_key.CompositeKey.{CompositeKey}
use Rattle.agg_values.specs.declared.composite_key.CompositeKey.TheVariants as shown
use Rattle.peslumok_texts.specs.dates.Dates.{IsDateText, in_range}
use Rattle.peslumok_texts.specs.decimals.Decimal.{decimal_text}
use Rattle.peslumok_texts.specs.declared.fields.field_type.FieldType.{FieldType}
use Rattle.peslumok_texts.specs.declared.fields.field_type.FieldType.TheVariants as of

-- the word of a truth value
abbrev pub bool_text : Bool → List ℕ
bool_text b = if b then codes "true" else codes "false"

-- the text of a date, or the number where it has more than 64 bits
abbrev pub IsNanosText : ℤ → List ℕ → Type 0
IsNanosText n text = MatchBool (is_ok (in_range n)) (IsDateText n text) (text ≡ signed_decimal n)

-- the text of a number: of a date, of nanoseconds; of a decimal, of its last place
abbrev pub IsNumberText : FieldType → ℤ → List ℕ → Type 0
IsNumberText of.Plain n text = text ≡ signed_decimal n
IsNumberText of.Text n text = text ≡ signed_decimal n
IsNumberText of.Date n text = IsNanosText n text
IsNumberText (of.DateNumber unit) n text = IsNanosText n text
IsNumberText (of.Decimal places) n text = text ≡ decimal_text places n

-- the text of a typed key, which for Null is empty
abbrev pub IsValueText : FieldType → CompositeIntermediateKey → List ℕ → Type 0
IsValueText of (key.Bool b) text = text ≡ bool_text b
IsValueText of (key.Str s) text = text ≡ s
IsValueText of (key.I64 n) text = IsNumberText of n text
IsValueText of (key.U64 n) text = IsNumberText of (pos n) text
IsValueText of (key.DateTime nanos) text = IsDateText nanos text
IsValueText of (key.IpAddr address) text = text ≡ address_text address.0
IsValueText of key.Null text = text ≡ []

-- what a shown number counts: the nanoseconds of a date, which is shown in milliseconds
abbrev pub shown_number : FieldType → ℤ → ℤ
shown_number of.Plain n = n
shown_number of.Text n = n
shown_number of.Date millis = millis *ℤ pos 1_000_000
shown_number (of.DateNumber unit) millis = millis *ℤ pos 1_000_000
shown_number (of.Decimal places) n = n

-- the text of a shown key, which for Null is empty
abbrev pub IsShownKeyText : FieldType → CompositeKey → List ℕ → Type 0
IsShownKeyText of (shown.Bool b) text = text ≡ bool_text b
IsShownKeyText of (shown.Str s) text = text ≡ s
IsShownKeyText of (shown.I64 n) text = IsNumberText of (shown_number of n) text
IsShownKeyText of (shown.U64 n) text = IsNumberText of (pos n) text
IsShownKeyText of shown.Null text = text ≡ []
