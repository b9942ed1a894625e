-- What the values of a field are divided by: an interval, and an offset after one of dates.
use Rattle.std.specs.Prelude.{ℕ, ℤ, pos, neg_ℤ, ◌^◌, int_lt, List, length, ◌&&◌, not, Bool}
use Rattle.std.specs.Prelude.{Option, Some, None, Result, Ok, Err, codes, is_ok, nat_lt}
use Rattle.std.specs.Prelude.{if◌then◌else◌}
use Rattle.std.specs.Str.{all_ascii_digits, bytes_eq}
use Rattle.std.specs.Str.Parse.{signed_digits_value, without_leading_sign}
use Rattle.agg_calendar.specs.Interval.{chosen}
use Rattle.agg_calendar.specs.IntervalText.{read_offset}
use Rattle.agg_calendar.specs.Refusal.{in_request}
use Rattle.agg_calendar.specs.declared.interval.CalendarInterval.TheVariants.{Year, Month, Week}
use Rattle.peslumok_texts.specs.decimals.Decimal.{decimal_of}
use Rattle.peslumok_texts.specs.declared.decimals.error.DecimalError.{DecimalError}
use Rattle.peslumok_texts.specs.declared.fields.field_type.FieldType.{FieldType}
use Rattle.peslumok_texts.specs.declared.fields.field_type.FieldType.TheVariants as of
use Rattle.peslumok_front.specs.declared.grouping.by_fault.ByFault.{ByFault}
use Rattle.peslumok_front.specs.declared.grouping.by_fault.ByFault.TheVariants as by_fault
use Rattle.peslumok_front.specs.declared.grouping.by_fault.IntervalFault.{IntervalFault}
use Rattle.peslumok_front.specs.declared.grouping.by_fault.IntervalFault.TheVariants as fault
use Rattle.peslumok_front.specs.declared.grouping.by_fault.OffsetFault.{OffsetFault}
use Rattle.peslumok_front.specs.declared.grouping.by_fault.OffsetFault.TheVariants as offset_fault
use Rattle.peslumok_front.specs.declared.grouping.division.DateInterval.{DateInterval}
use Rattle.peslumok_front.specs.declared.grouping.division.DateInterval.TheVariants.{Fixed}
use Rattle.peslumok_front.specs.declared.grouping.division.DateInterval.TheVariants.{Calendar}
use Rattle.peslumok_front.specs.declared.grouping.division.Division.{Division}
use Rattle.peslumok_front.specs.declared.grouping.division.Division.TheVariants.{Values, Width}
use Rattle.peslumok_front.specs.declared.grouping.division.Division.TheVariants.{Dates}

-- ---- dates

-- a fixed interval, where a text is one
abbrev pub fixed_interval : List ℕ → Result DateInterval IntervalFault
fixed_interval text =
    if is_ok (chosen (Some text) None) then Ok (Fixed text) else Err fault.OfDates

-- dates are divided by years, months, weeks, or a fixed interval
abbrev pub date_interval : List ℕ → Result DateInterval IntervalFault
date_interval text =
    if bytes_eq text (codes "year") then Ok (Calendar Year)
    else if bytes_eq text (codes "month") then Ok (Calendar Month)
    else if bytes_eq text (codes "week") then Ok (Calendar Week)
    else fixed_interval text

-- an offset, where a text is one
abbrev pub offset_text : List ℕ → Result (Option (List ℕ)) OffsetFault
offset_text text =
    if is_ok (in_request (read_offset text)) then Ok (Some text) else Err offset_fault.NoTime

-- an offset, if there is one
abbrev pub offset_asked : Option (List ℕ) → Result (Option (List ℕ)) OffsetFault
offset_asked None = Ok None
offset_asked (Some text) = offset_text text

-- intervals of dates that begin later by an offset
abbrev pub dates_division : Result DateInterval IntervalFault
    → Result (Option (List ℕ)) OffsetFault → Result Division ByFault
dates_division (Err why) offset = Err (by_fault.Interval why)
dates_division (Ok interval) (Err why) = Err (by_fault.Offset why)
dates_division (Ok interval) (Ok offset) = Ok (Dates interval offset)

-- ---- numbers

-- whether a text is digits, after a sign or none
abbrev pub is_numeral : List ℕ → Bool
is_numeral text =
    nat_lt 0 (length (without_leading_sign text)) && all_ascii_digits (without_leading_sign text)

-- whether a number has 64 bits with its sign
abbrev pub has_64_bits : ℤ → Bool
has_64_bits n = not (int_lt n (neg_ℤ (pos (2 ^ 63)))) && int_lt n (pos (2 ^ 63))

-- a width is above zero
abbrev pub width_division : IntervalFault → ℤ → Result Division IntervalFault
width_division why n = if int_lt (pos 0) n then Ok (Width n) else Err why

-- numbers are divided by a whole number
abbrev pub number_division : List ℕ → Result Division IntervalFault
number_division text =
    let n = signed_digits_value 10 text in
    if is_numeral text && has_64_bits n then width_division fault.OfNumbers n
    else Err fault.OfNumbers

-- decimals are divided by a number of their last place
abbrev pub decimal_division : Result ℤ DecimalError → Result Division IntervalFault
decimal_division (Ok n) = width_division fault.OfDecimals n
decimal_division (Err why) = Err fault.OfDecimals

-- intervals of numbers have no offset
abbrev pub without_offset : Result Division IntervalFault → Option (List ℕ)
    → Result Division ByFault
without_offset (Err why) offset = Err (by_fault.Interval why)
without_offset (Ok division) None = Ok division
without_offset (Ok division) (Some text) = Err (by_fault.Offset offset_fault.NotOfDates)

-- ---- by types

-- what the values of a field of a type are divided by, with an interval and perhaps an offset
abbrev pub division_asked : FieldType → List ℕ → Option (List ℕ) → Result Division ByFault
division_asked of.Plain interval offset = without_offset (number_division interval) offset
division_asked of.Text interval offset = Err (by_fault.Interval fault.OfTexts)
division_asked of.Date interval offset =
    dates_division (date_interval interval) (offset_asked offset)
division_asked (of.DateNumber unit) interval offset =
    dates_division (date_interval interval) (offset_asked offset)
division_asked (of.Decimal places) interval offset =
    without_offset (decimal_division (decimal_of places interval)) offset

-- what the values of a field of a type are divided by; by nothing where no interval is asked for
abbrev pub division_by : FieldType → Option (List ℕ) → Option (List ℕ) → Result Division ByFault
division_by of None offset = Ok Values
division_by of (Some interval) offset = division_asked of interval offset
