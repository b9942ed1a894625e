-- The texts of intervals and offsets: digits and a unit, after a sign at offsets.
use Rattle.std.specs.Prelude.{◌≡◌, ℕ, ℤ, pos, neg_ℤ, ◌*◌, ◌^◌, ◌<◌, ◌++◌, List, length, drop}
use Rattle.std.specs.Prelude.{Bool, ◌⊎◌, ◌==◌, ◌||◌, if◌then◌else◌, nat_lt, codes, take_while}
use Rattle.std.specs.Prelude.{Option, Some, None, Result, Ok, Err}
use Rattle.std.specs.List.{prefix_len}
use Rattle.std.specs.Char.{is_ascii_digit}
use Rattle.std.specs.Str.{bytes_eq}
use Rattle.std.specs.Str.Parse.{IsNumeral, digits_value, starts_with_minus, without_leading_sign}
use Rattle.agg_values.specs.declared.request_error.DateHistogramParseError as parsing
use parsing.{DateHistogramParseError}
use parsing.TheVariants.{UnitNotRecognized, NumberMissing, UnitMissing}
use parsing.TheVariants.{InvalidOffset, OutOfBounds}
use Rattle.agg_calendar.specs.declared.interval_text.Fault.{Fault}
use Rattle.agg_calendar.specs.declared.interval_text.Fault.TheVariants.{NoNumber, NoUnit}
use Rattle.agg_calendar.specs.declared.interval_text.Fault.TheVariants.{UnknownUnit, TooLarge}

-- the digits at the front
abbrev pub digits_of : List ℕ → List ℕ
digits_of text = take_while is_ascii_digit text

-- what follows the digits at the front
abbrev pub unit_of : List ℕ → List ℕ
unit_of text = drop (prefix_len is_ascii_digit text) text

-- a unit is written as either of two words
abbrev pub is_either : List ℕ → List ℕ → List ℕ → Bool
is_either short long unit = bytes_eq unit short || bytes_eq unit long

-- the milliseconds of a unit
unfoldable pub unit_ms : List ℕ → Option ℕ
unit_ms unit =
    if is_either (codes "ms") (codes "milliseconds") unit then Some 1
    else if is_either (codes "s") (codes "seconds") unit then Some 1_000
    else if is_either (codes "m") (codes "minutes") unit then Some 60_000
    else if is_either (codes "h") (codes "hours") unit then Some 3_600_000
    else if is_either (codes "d") (codes "days") unit then Some 86_400_000
    else None

-- a fault with the text that it names: the unit where that is unknown, else the whole text
abbrev pub spelled : List ℕ → Fault → DateHistogramParseError
spelled text NoNumber = NumberMissing text
spelled text NoUnit = UnitMissing text
spelled text UnknownUnit = UnitNotRecognized (unit_of text)
spelled text TooLarge = OutOfBounds text

-- so many of a unit in milliseconds, where their nanoseconds fit 64 bits
abbrev pub counted : List ℕ → ℕ → Option ℕ → Result ℤ DateHistogramParseError
counted text count None = Err (spelled text UnknownUnit)
counted text count (Some factor) =
    if nat_lt (count * factor * 1_000_000) (2 ^ 63)
    then Ok (pos (count * factor))
    else Err (spelled text TooLarge)

-- the milliseconds of an interval text, or its first refusal: that of `2y` is UnitNotRecognized for
-- y; UnitMissing, NumberMissing and OutOfBounds are those of `2000`, `ms` and `9223372036855ms`
unfoldable pub read_interval : List ℕ → Result ℤ DateHistogramParseError
read_interval text =
    if length (digits_of text) == 0 then Err (spelled text NoNumber)
    else if length (unit_of text) == 0 then Err (spelled text NoUnit)
    else if nat_lt (digits_value 10 (digits_of text)) (2 ^ 63)
    then counted text (digits_value 10 (digits_of text)) (unit_ms (unit_of text))
    else Err (spelled text NoNumber)

-- milliseconds with the sign that stood before them
abbrev pub signed :
    Bool → Result ℤ DateHistogramParseError → Result ℤ DateHistogramParseError
signed is_minus (Ok ms) = Ok (if is_minus then neg_ℤ ms else ms)
signed is_minus (Err error) = Err error

-- the milliseconds of an offset text, or its first refusal
unfoldable pub read_offset : List ℕ → Result ℤ DateHistogramParseError
read_offset text =
    if length text == 0
    then Err (InvalidOffset text)
    else signed (starts_with_minus text) (read_interval (without_leading_sign text))

-- digits and a unit, whose milliseconds these are; the digits and the nanoseconds fit 64 bits
abbrev pub IsIntervalText : List ℕ → ℤ → Type 0
IsIntervalText text ms =
    (digits unit : List ℕ) × (factor : ℕ)
    × (text ≡ digits ++ unit)
    × IsNumeral 10 digits
    × (unit_ms unit ≡ Some factor)
    × (digits_value 10 digits < 2 ^ 63)
    × (digits_value 10 digits * factor * 1_000_000 < 2 ^ 63)
    × (ms ≡ pos (digits_value 10 digits * factor))

-- a text is another after a sign or none, and a number the other's with that sign
abbrev pub IsSigned : List ℕ → ℤ → List ℕ → ℤ → Type 0
IsSigned text ms rest part =
    ((text ≡ rest) × (ms ≡ part))
    ⊎ (((text ≡ codes "+" ++ rest) × (ms ≡ part))
    ⊎ ((text ≡ codes "-" ++ rest) × (ms ≡ neg_ℤ part)))

-- an interval text after a sign or none, whose milliseconds with that sign these are
abbrev pub IsOffsetText : List ℕ → ℤ → Type 0
IsOffsetText text ms =
    (rest : List ℕ) × (part : ℤ) × IsIntervalText rest part × IsSigned text ms rest part
