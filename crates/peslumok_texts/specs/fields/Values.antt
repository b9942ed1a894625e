-- The values of texts, and of JSON's numbers and strings, by the type of their field.
use Rattle.std.specs.Prelude.{ℕ, ℤ, pos, ◌*ℤ◌, ◌^◌, int_lt, unsigned_abs, List, if◌then◌else◌}
use Rattle.std.specs.Prelude.{Option, Some, None, Result, Ok, Err}
use Rattle.agg_segment.specs.declared.storage.document.FieldValue.{FieldValue}
use Rattle.agg_segment.specs.declared.storage.document.FieldValue.TheVariants as value
use Rattle.peslumok_texts.specs.dates.Dates.{date_of, in_range}
use Rattle.peslumok_texts.specs.dates.Units.{nanos_each}
use Rattle.peslumok_texts.specs.declared.dates.error.DateError.{DateError}
use Rattle.peslumok_texts.specs.declared.dates.error.DateError.TheVariants as date
use Rattle.peslumok_texts.specs.declared.dates.unit.DateUnit.{DateUnit}
use Rattle.peslumok_texts.specs.decimals.Decimal.{decimal_of}
use Rattle.peslumok_texts.specs.declared.decimals.error.DecimalError.{DecimalError}
use Rattle.peslumok_texts.specs.fields.Wholes.{whole_of}
use Rattle.peslumok_texts.specs.declared.fields.error.ValueError.{ValueError}
use Rattle.peslumok_texts.specs.declared.fields.error.ValueError.TheVariants as error
use Rattle.peslumok_texts.specs.declared.fields.field_type.FieldType.{FieldType}
use Rattle.peslumok_texts.specs.declared.fields.field_type.FieldType.TheVariants as of

-- a number as an I64 where it is one, else as a U64
abbrev pub number_value : ℤ → FieldValue
number_value n = if int_lt n (pos (2 ^ 63)) then value.I64 n else value.U64 (unsigned_abs n)

-- a number, or else the text
abbrev pub number_or_text : List ℕ → Option ℤ → FieldValue
number_or_text text None = value.Str text
number_or_text text (Some n) = number_value n

-- a number, or else the error
abbrev pub number_or_error : Option ℤ → Result FieldValue ValueError
number_or_error None = Err error.NotWhole
number_or_error (Some n) = Ok (number_value n)

-- a date
abbrev pub date_value : Result ℤ DateError → Result FieldValue ValueError
date_value (Err e) = Err (error.NotADate e)
date_value (Ok nanos) = Ok (value.Date nanos)

-- nanoseconds where they have 64 bits
abbrev pub nanos_value : Result ℤ DateError → Result FieldValue ValueError
nanos_value (Err e) = Err error.DateTooLarge
nanos_value (Ok nanos) = Ok (value.Date nanos)

-- a whole number of a unit as a date
abbrev pub unit_value : DateUnit → Option ℤ → Result FieldValue ValueError
unit_value unit None = Err error.NotANumberOfUnit
unit_value unit (Some n) = nanos_value (in_range (n *ℤ pos (nanos_each unit)))

-- a whole number of the last place
abbrev pub decimal_value : ℕ → Result ℤ DecimalError → Result FieldValue ValueError
decimal_value places (Err e) = Err (error.NotADecimal e places)
decimal_value places (Ok n) = Ok (value.I64 n)

-- the value of a text
abbrev pub text_value : FieldType → List ℕ → Result FieldValue ValueError
text_value of.Plain text = Ok (number_or_text text (whole_of text))
text_value of.Text text = Ok (value.Str text)
text_value of.Date text = date_value (date_of text)
text_value (of.DateNumber unit) text = unit_value unit (whole_of text)
text_value (of.Decimal places) text = decimal_value places (decimal_of places text)

-- the value of a JSON number
abbrev pub numeral_value : FieldType → List ℕ → Result FieldValue ValueError
numeral_value of.Plain numeral = number_or_error (whole_of numeral)
numeral_value of.Text numeral = Ok (value.Str numeral)
numeral_value of.Date numeral = Err (error.NotADate date.NotADate)
numeral_value (of.DateNumber unit) numeral = unit_value unit (whole_of numeral)
numeral_value (of.Decimal places) numeral = decimal_value places (decimal_of places numeral)

-- the value of a JSON string
abbrev pub string_value : FieldType → List ℕ → Result FieldValue ValueError
string_value of.Plain text = Ok (value.Str text)
string_value of.Text text = Ok (value.Str text)
string_value of.Date text = date_value (date_of text)
string_value (of.DateNumber unit) text = Err error.NotANumberOfUnit
string_value (of.Decimal places) text = decimal_value places (decimal_of places text)
