-- The first days of a date's year and month, and that there is one greatest first day at most.
use Rattle.std.proofs.Common.{◌≡◌, inl, inr, refl, sym, arith, rules, subst}
use Rattle.std.proofs.Common.{ℤ, pos, ◌+ℤ◌, ◌≤ℤ◌, Result, Ok, IfOk}
use Rattle.std.proofs.lemmas.Bool.{cases_order}
use Rattle.std.proofs.lemmas.Int.{by_lt_z}
use Rattle.std.specs.Int.{int_rem_euclid}
use Rattle.jiff_core.specs.declared.civil.date.Date.{Date}
use Rattle.jiff_core.specs.Date.{epoch_day, ordinal}
use Rattle.jiff_core.proofs.DateLemmas.{epoch_day-lt, epoch_day_same, epoch_day-ordinal}
use Rattle.jiff_core.proofs.DateLemmas.{days_from_civil-day}
use Rattle.jiff_core.proofs.SignedLemmas.{signed_arith}
use Rattle.agg_calendar.specs.FirstDay.{IsGreatestFirstDay}
use Rattle.agg_calendar.specs.declared.interval.CalendarInterval.{CalendarInterval}
use Rattle.agg_calendar.specs.declared.interval.CalendarInterval.TheVariants.{Year, Month, Week}

-- 1 January of the date's year
first_of_year : Date → Date
first_of_year d = record {
  year = d.year;
  month = 1;
  day = 1;
  year_in = d.year_in;
  month_in = search rules;
  day_in = search rules;
}

-- the first of the date's month
first_of_month : Date → Date
first_of_month d = record {
  year = d.year;
  month = d.month;
  day = 1;
  year_in = d.year_in;
  month_in = d.month_in;
  day_in = (search rules, omega (arith, d.day_in));
}

-- a 1 January that is no later than a date is no later than that of its year
no_later_year : (d other : Date)
    → other.month ≡ 1
    → other.day ≡ 1
    → epoch_day other ≤ℤ epoch_day d
    → epoch_day other ≤ℤ epoch_day (first_of_year d)
unfolding first_of_year
no_later_year d other january first h =
    let s = first_of_year d in
    by_lt_z other.year d.year
    (λ lt. omega (arith, signed_arith, epoch_day-lt other s (inl lt)))
    (λ ge. by_lt_z d.year other.year
    (λ gt. absurd (omega (arith, signed_arith, epoch_day-lt d other (inl gt))))
    (λ le. let same : other.year ≡ d.year = omega (arith, signed_arith) in
    omega (arith, signed_arith, epoch_day_same other s same january first)))

-- the first of a month that is no later than a date is no later than that of its month
no_later_month : (d other : Date)
    → other.day ≡ 1
    → epoch_day other ≤ℤ epoch_day d
    → epoch_day other ≤ℤ epoch_day (first_of_month d)
unfolding first_of_month
no_later_month d other first h =
    let s = first_of_month d in
    by_lt_z other.year d.year
    (λ lt. omega (arith, signed_arith, epoch_day-lt other s (inl lt)))
    (λ ge. by_lt_z d.year other.year
    (λ gt. absurd (omega (arith, signed_arith, epoch_day-lt d other (inl gt))))
    (λ le. let same : other.year ≡ d.year = omega (arith, signed_arith) in
    elim (cases_order other.month d.month) [
      | inl month ↦ omega (arith, signed_arith, epoch_day_same other s same month first)
      | inr (inl lt) ↦
          omega (arith, signed_arith, epoch_day-lt other s (inr (same, inl lt)))
      | inr (inr gt) ↦ absurd
          (omega (arith, signed_arith, epoch_day-lt d other (inr (sym same, inl gt))))
    ]))

-- the days before a date in its year, taken from its day number
pub year_is : (d : Date) (day first : ℤ)
    → epoch_day d ≡ day
    → first +ℤ pos (ordinal d) ≡ day +ℤ pos 1
    → IsGreatestFirstDay Year day first
unfolding first_of_year
year_is d day first is e =
    let s = first_of_year d in
    let same : epoch_day s ≡ first = omega (arith, signed_arith, epoch_day-ordinal d) in (
      (s, same, refl, refl),
      omega (arith, signed_arith, d.day_in),
      λ other (date, of, january, one) h.
          let k = no_later_year d date january one (omega (arith, signed_arith)) in
          omega (arith, signed_arith),
    )

-- the days before a date in its month, taken from its day number
pub month_is : (d : Date) (day first : ℤ)
    → epoch_day d ≡ day
    → first +ℤ pos d.day ≡ day +ℤ pos 1
    → IsGreatestFirstDay Month day first
unfolding first_of_month
month_is d day first is e =
    let s = first_of_month d in
    let back = days_from_civil-day d.year d.month d.day 1 d.day_in.0 (omega arith) in
    let same : epoch_day s ≡ first = omega (arith, signed_arith, back) in (
      (s, same, refl),
      omega (arith, signed_arith, d.day_in),
      λ other (date, of, one) h.
          let k = no_later_month d date one (omega (arith, signed_arith)) in
          omega (arith, signed_arith),
    )

-- the days since Monday, taken from the day number
pub week_is : (day first : ℤ)
    → first +ℤ int_rem_euclid (day +ℤ pos 3) (pos 7) ≡ day
    → IsGreatestFirstDay Week day first
week_is day first e = (
  omega (arith, signed_arith),
  omega (arith, signed_arith),
  λ other monday h. omega (arith, signed_arith),
)

-- there is one greatest first day
pub greatest_unique : (interval : CalendarInterval) (day first other : ℤ)
    → IsGreatestFirstDay interval day first
    → IsGreatestFirstDay interval day other
    → first ≡ other
greatest_unique interval day first other h k =
    let low = h.2 other k.0 k.1 in
    let high = k.2 first h.0 h.1 in
    omega (arith, signed_arith)

-- what holds of an Ok holds of the value that it unwraps to
pub unwrapped : {T E : Type 0} (r : Result T E) (x : T) (P : T → Type 0)
    → r ≡ Ok x
    → IfOk r P
    → P x
unwrapped r x P e h = subst (λ q. IfOk q P) e h
