-- Texts of dates and times as nanoseconds since 1970.
use Rattle.std.specs.Prelude.{ℕ, ℤ, pos, neg_ℤ, ◌-ℤ◌, ◌-◌, ◌+◌, ◌*◌, ◌^◌, int_lt, List, [], ◌∷◌}
use Rattle.std.specs.Prelude.{◌≡◌, ◌++◌}
use Rattle.std.specs.Prelude.{Bool, false, ◌==◌, ◌&&◌, ◌||◌, if◌then◌else◌, nat_eq, nat_lt, length}
use Rattle.std.specs.Prelude.{Option, Some, None, Result, Ok, Err, drop, codes}
use Rattle.std.specs.List.{starts_with}
use Rattle.jiff_core.specs.DateTime.{civil_nanos}
use Rattle.jiff_core.specs.Time.{time_nanos}
use Rattle.jiff_core.specs.Timestamp.{nanos_of_seconds}
use Rattle.jiff_core.specs.declared.civil.datetime.DateTime.{DateTime}
use Rattle.jiff_core.specs.declared.error.Error.{Error}
use Rattle.jiff_fmt.specs.Reader.{Read}
use Rattle.jiff_fmt.specs.Text.{date_text, datetime_text, zulu_text}
use Rattle.jiff_fmt.specs.Temporal.{DateParts, TimeParts, PiecesParts, OffsetPiece, ZonePiece}
use Rattle.jiff_fmt.specs.Temporal.{date_spec, parse_pieces, parts_nanos, piece_seconds}
use Rattle.jiff_fmt.specs.Temporal.{time_or_midnight}
use Rattle.peslumok_texts.specs.declared.dates.error.DateError.{DateError}
use Rattle.peslumok_texts.specs.declared.dates.error.DateError.TheVariants as error

-- seconds east of UTC; a text without an offset is in UTC
abbrev pub seconds_east : Option OffsetPiece → ℤ
seconds_east None = pos 0
seconds_east (Some offset) = piece_seconds offset

-- the nanoseconds since midnight of a time of day
abbrev pub clock_of : TimeParts → ℕ
clock_of t = (t.hour * 3_600 + t.minute * 60 + t.second) * 1_000_000_000 + t.subsec

-- the nanoseconds since 1970 of what a text wrote; a date alone is its midnight
abbrev pub nanos_of_parts : PiecesParts → ℤ
nanos_of_parts p =
    parts_nanos p.date (time_or_midnight p.time) -ℤ nanos_of_seconds (seconds_east p.offset)

-- a number where it has 64 bits
abbrev pub in_range : ℤ → Result ℤ DateError
in_range n =
    if int_lt n (neg_ℤ (pos (2 ^ 63))) || int_lt (pos (2 ^ 63 - 1)) n
    then Err error.OutOfRange else Ok n

-- whether 60 stands for the seconds of a time, as in `235960` and `23:59:60`
abbrev pub writes_sixty : List ℕ → Bool
writes_sixty time =
    nat_lt 5 (length time)
    && (starts_with nat_eq (drop 4 time) (codes "60")
    || starts_with nat_eq (drop 5 time) (codes ":60"))

-- the same of the time that follows a date and one character
abbrev pub writes_sixty_after : Read DateParts → Bool
writes_sixty_after (Err e) = false
writes_sixty_after (Ok (date, [])) = false
writes_sixty_after (Ok (date, c ∷ time)) = writes_sixty time

-- whether the text of a time that was read has a 60th second, which is read as the 59th
abbrev pub has_second_sixty : List ℕ → TimeParts → Bool
has_second_sixty text time = (time.second == 59) && writes_sixty_after (date_spec text)

-- the nanoseconds of what a text wrote, where no zone is named in brackets
abbrev pub without_zone : List ℕ → PiecesParts → Option ZonePiece → Result ℤ DateError
without_zone text p (Some zone) = Err error.NamesAZone
without_zone text p None =
    if has_second_sixty text (time_or_midnight p.time) then Err error.SecondSixty
    else in_range (nanos_of_parts p)

abbrev pub of_pieces : List ℕ → Result PiecesParts Error → Result ℤ DateError
of_pieces text (Err e) = Err error.NotADate
of_pieces text (Ok p) = without_zone text p p.zone

-- a text of ISO 8601 as nanoseconds since 1970
abbrev pub date_of : List ℕ → Result ℤ DateError
date_of text = of_pieces text (parse_pieces text)

-- what a clock in UTC shows: the date alone at midnight, else the time too
abbrev pub clock_text : DateTime → List ℕ
clock_text shown =
    if time_nanos shown.time == 0 then date_text shown.date
    else datetime_text false 84 None shown ++ zulu_text false

-- the text of nanoseconds since 1970
abbrev pub IsDateText : ℤ → List ℕ → Type 0
IsDateText nanos text = (shown : DateTime) × (civil_nanos shown ≡ nanos) × (text ≡ clock_text shown)
