-- The days on which years, months and weeks begin. Day 0 is 1970-01-01 in the Gregorian calendar.
use Rattle.std.specs.Prelude.{◌≡◌, ℤ, pos, ◌+ℤ◌, ◌≤ℤ◌}
use Rattle.std.specs.Int.{int_rem_euclid}
use Rattle.jiff_core.specs.declared.civil.date.Date.{Date}
use Rattle.jiff_core.specs.Date.{epoch_day}
use Rattle.agg_calendar.specs.declared.interval.CalendarInterval.{CalendarInterval}
use Rattle.agg_calendar.specs.declared.interval.CalendarInterval.TheVariants.{Year, Month, Week}

-- the day is 1 January of a year
abbrev pub IsFirstOfYear : ℤ → Type 0
IsFirstOfYear day = (date : Date) × (epoch_day date ≡ day) × (date.month ≡ 1) × (date.day ≡ 1)

-- the day is the first of a month
abbrev pub IsFirstOfMonth : ℤ → Type 0
IsFirstOfMonth day = (date : Date) × (epoch_day date ≡ day) × (date.day ≡ 1)

-- the day is a Monday, since day 0 is a Thursday
abbrev pub IsMonday : ℤ → Type 0
IsMonday day = int_rem_euclid (day +ℤ pos 3) (pos 7) ≡ pos 0

-- the day begins a year, a month or a week
abbrev pub IsFirstDay : CalendarInterval → ℤ → Type 0
IsFirstDay Year = IsFirstOfYear
IsFirstDay Month = IsFirstOfMonth
IsFirstDay Week = IsMonday

-- the greatest first day that is at most the day
abbrev pub IsGreatestFirstDay : CalendarInterval → ℤ → ℤ → Type 0
IsGreatestFirstDay interval day first =
    IsFirstDay interval first
    × (first ≤ℤ day)
    × ((other : ℤ) → IsFirstDay interval other → other ≤ℤ day → other ≤ℤ first)
