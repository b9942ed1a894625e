-- Starts of buckets, as unbounded whole numbers: what a start is, and the function that gives it.
-- The law `each_timestamp_has_one_start` says that both are the same.
use Rattle.std.specs.Prelude.{◌≡◌, ℤ, pos, ◌+ℤ◌, ◌-ℤ◌, ◌*ℤ◌, ◌≤ℤ◌, FitsSigned, Result, MatchResult}
use Rattle.std.specs.Prelude.{⊤}
use Rattle.std.specs.Int.{w64, int_div_euclid}
use Rattle.agg_calendar.specs.FirstDay.{IsGreatestFirstDay}
use Rattle.agg_calendar.specs.FirstDaySearch.{greatest_first_day}
use Rattle.agg_calendar.specs.declared.interval.CalendarInterval.{CalendarInterval}
use Rattle.agg_calendar.specs.declared.interval.PrecomputedDateInterval as interval
pub use interval.{PrecomputedDateInterval}
use interval.TheVariants.{NotApplicable, FixedNanoseconds, Calendar}
use Rattle.agg_calendar.specs.declared.error.StartError.{StartError}

-- ---- what a start is

-- the nanoseconds of a day
abbrev pub day_ns : ℤ
day_ns = pos 86_400_000_000_000

-- midnight of the greatest first day that is at most the day of the timestamp
abbrev pub IsCalendarStart : CalendarInterval → ℤ → ℤ → Type 0
IsCalendarStart interval ns start =
    (first : ℤ)
    × IsGreatestFirstDay interval (int_div_euclid ns day_ns) first
    × (start ≡ first *ℤ day_ns)

-- the greatest multiple of the interval that is at most the value
abbrev pub IsFixedStart : ℤ → ℤ → ℤ → Type 0
IsFixedStart interval value start =
    ((times : ℤ) × (start ≡ interval *ℤ times))
    × (start ≤ℤ value)
    × ((times : ℤ) → (interval *ℤ times) ≤ℤ value → (interval *ℤ times) ≤ℤ start)

-- the start of the bucket that holds a timestamp: itself, where there is no interval
abbrev pub IsStart : PrecomputedDateInterval → ℤ → ℤ → Type 0
IsStart NotApplicable ns start = start ≡ ns
IsStart (FixedNanoseconds interval) ns start = IsFixedStart interval ns start
IsStart (Calendar interval) ns start = IsCalendarStart interval ns start

-- a fixed interval is at least one
abbrev pub IsUsable : PrecomputedDateInterval → Type 0
IsUsable (FixedNanoseconds interval) = pos 1 ≤ℤ interval
IsUsable _ = ⊤

-- ---- the start as a function

-- that of a calendar interval, for the years -9999 to 9999
abbrev pub calendar_start : CalendarInterval → ℤ → ℤ
calendar_start interval ns = greatest_first_day interval (int_div_euclid ns day_ns) *ℤ day_ns

-- that of a fixed interval
abbrev pub fixed_start : ℤ → ℤ → ℤ
fixed_start interval value = interval *ℤ int_div_euclid value interval

-- the start of the bucket that holds a timestamp
abbrev pub start_of : PrecomputedDateInterval → ℤ → ℤ
start_of NotApplicable ns = ns
start_of (FixedNanoseconds interval) ns = fixed_start interval ns
start_of (Calendar interval) ns = calendar_start interval ns

-- the start of the bucket that holds a timestamp, where every bucket begins later by an offset
abbrev pub start_with_offset : PrecomputedDateInterval → ℤ → ℤ → ℤ
start_with_offset interval offset ns = start_of interval (ns -ℤ offset) +ℤ offset

-- a start is given exactly where it fits 64 bits
abbrev pub GivesStart : ℤ → Result ℤ StartError → Type 0
GivesStart start result =
    MatchResult result (λ given. given ≡ start) (λ error. ¬ (FitsSigned w64 start))
