-- A search for first days. The law `starts_are_of_first_days` says that it finds the one of
-- `IsGreatestFirstDay`, for days from -9999-01-01 to 9999-12-31.
use Rattle.std.specs.Prelude.{ℕ, zero, suc, ◌+◌, ◌/◌, ◌%◌, ℤ, pos, ◌+ℤ◌, ◌-ℤ◌, int_le}
use Rattle.std.specs.Prelude.{if◌then◌else◌}
use Rattle.std.specs.Int.{int_rem_euclid, int_max}
use Rattle.jiff_core.specs.Calendar.{days_from_civil}
use Rattle.agg_calendar.specs.declared.interval.CalendarInterval.{CalendarInterval}
use Rattle.agg_calendar.specs.declared.interval.CalendarInterval.TheVariants.{Year, Month, Week}

-- the first day of the year that is so many years after -9999
abbrev pub nth_year : ℕ → ℤ
nth_year n = days_from_civil (pos n -ℤ pos 9999) 1 1

-- the first day of the month that is so many months after January -9999
abbrev pub nth_month : ℕ → ℤ
nth_month n = days_from_civil (pos (n / 12) -ℤ pos 9999) (n % 12 + 1) 1

-- the greatest of numbered days, up to the last of them, that is at most the day
unfoldable pub greatest_at_most : (ℕ → ℤ) → ℕ → ℤ → ℤ
greatest_at_most nth zero day = nth 0
greatest_at_most nth (suc last) day =
    if int_le (nth (suc last)) day
    then int_max (nth (suc last)) (greatest_at_most nth last day)
    else greatest_at_most nth last day

-- the greatest first day that is at most the day
abbrev pub greatest_first_day : CalendarInterval → ℤ → ℤ
greatest_first_day Year day = greatest_at_most nth_year 19_998 day
greatest_first_day Month day = greatest_at_most nth_month 239_987 day
greatest_first_day Week day = day -ℤ int_rem_euclid (day +ℤ pos 3) (pos 7)
