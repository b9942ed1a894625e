-- The function `greatest_first_day` gives the greatest first day.
use Rattle.std.proofs.Common.{◌≡◌, ℕ, zero, suc, ◌+◌, ◌-◌, ◌*◌, ◌/◌, ◌%◌, ◌≤◌, refl, arith, rules}
use Rattle.std.proofs.Common.{ℤ, pos, neg_ℤ, ◌-ℤ◌, ◌<ℤ◌, ◌≤ℤ◌, int_le, true, false, ◌⊎◌, inl, inr}
use Rattle.std.proofs.Common.{subst}
use Rattle.std.proofs.lemmas.Int.{by_lt_z, ints, clamps}
use Rattle.std.proofs.lemmas.Bool.{cases_Bool, cases_order}
use Rattle.std.specs.Int.{int_max, int_div_euclid}
use Rattle.agg_calendar.specs.Start.{day_ns, calendar_start, IsCalendarStart}
use borrow.Author.Differences.{up, down}
use Rattle.jiff_core.specs.declared.civil.date.Date.{Date}
use Rattle.jiff_core.specs.Calendar.{IsEpochDay}
use Rattle.jiff_core.specs.Date.{epoch_day}
use Rattle.jiff_core.specs.Timestamp.{IsTimestampNanos}
use Rattle.jiff_core.proofs.DateLemmas.{days_from_civil-min, epoch_day_range}
use Rattle.jiff_core.proofs.SignedLemmas.{signed_arith}
use Rattle.agg_calendar.specs.FirstDay.{IsGreatestFirstDay}
use Rattle.agg_calendar.specs.FirstDaySearch.{nth_year, nth_month}
use Rattle.agg_calendar.specs.FirstDaySearch.{greatest_at_most, greatest_first_day}
use Rattle.agg_calendar.specs.declared.interval.CalendarInterval.{CalendarInterval}
use Rattle.agg_calendar.specs.declared.interval.CalendarInterval.TheVariants.{Year, Month, Week}
use Rattle.agg_calendar.proofs.FirstDays.{week_is, greatest_unique}

-- the greater of two is one of them
max_cases : (a b : ℤ)
    → ((int_max a b ≡ a) × (b ≤ℤ a)) ⊎ ((int_max a b ≡ b) × (a ≤ℤ b))
max_cases a b =
    by_lt_z a b
    (λ lt. inr (omega (arith, ints, clamps), omega (arith, ints)))
    (λ le. inl (omega (arith, ints, clamps), le))

le_true : (a b : ℤ) → int_le a b ≡ true → a ≤ℤ b
le_true a b e = omega (arith, ints)

le_false : (a b : ℤ) → int_le a b ≡ false → b <ℤ a
le_false a b e = omega (arith, ints)

-- it is one of the numbered days that are at most the day
abbrev Among : (ℕ → ℤ) → ℕ → ℤ → ℤ → Type 0
Among nth last day first = (k : ℕ) × (k ≤ last) × (nth k ≡ first) × (first ≤ℤ day)

among : (nth : ℕ → ℤ) (last : ℕ) (day : ℤ)
    → nth 0 ≤ℤ day
    → Among nth last day (greatest_at_most nth last day)
unfolding greatest_at_most
among nth zero day low = (0, omega arith, refl, low)
among nth (suc last) day low =
    let earlier = greatest_at_most nth last day in
    let before = among nth last day low in
    let kept : Among nth (suc last) day earlier =
    (before.0, omega (arith, before.1), before.2, before.3) in
    elim (cases_Bool (int_le (nth (suc last)) day)) [
      | inl y ↦ rw y (elim (max_cases (nth (suc last)) earlier) [
        | inl (e, h) ↦ rw e (suc last, omega arith, refl, le_true _ _ y)
        | inr (e, h) ↦ rw e kept
      ])
      | inr n ↦ rw n kept
    ]

-- no other of them lies above it
above : (nth : ℕ → ℤ) (last : ℕ) (day : ℤ) (k : ℕ)
    → k ≤ last
    → nth k ≤ℤ day
    → nth k ≤ℤ greatest_at_most nth last day
unfolding greatest_at_most
above nth zero day k within h =
    let e : k ≡ 0 = omega arith in
    rw e (omega (arith, ints))
above nth (suc last) day k within h =
    let best = greatest_at_most nth last day in
    let earlier = λ (l : k ≤ last). above nth last day k l h in
    elim (cases_order k (suc last)) [
      | inl e ↦ elim (cases_Bool (int_le (nth (suc last)) day)) [
        | inl y ↦ rw (e, y) (elim (max_cases (nth (suc last)) best) [
          | inl (same, _) ↦ rw same (omega (arith, ints))
          | inr (same, le) ↦ rw same le
        ])
        | inr n ↦ absurd
            (let here : nth (suc last) ≤ℤ day = rw e at h in
            omega (arith, ints, le_false (nth (suc last)) day n))
      ]
      | inr (inl lt) ↦
          let low = earlier (omega arith) in
          elim (cases_Bool (int_le (nth (suc last)) day)) [
            | inl y ↦ rw y (elim (max_cases (nth (suc last)) best) [
              | inl (same, le) ↦ rw same (omega (arith, ints))
              | inr (same, _) ↦ rw same low
            ])
            | inr n ↦ rw n low
          ]
      | inr (inr gt) ↦ absurd (omega arith)
    ]

-- the date of a numbered year's first day
year_of : (n : ℕ) → n ≤ 19_998 → Date
year_of n h = record {
  year = pos n -ℤ pos 9999;
  month = 1;
  day = 1;
  year_in = omega (arith, signed_arith);
  month_in = search rules;
  day_in = search rules;
}

year_greatest : (day : ℤ)
    → IsEpochDay day
    → IsGreatestFirstDay Year day (greatest_first_day Year day)
unfolding year_of
year_greatest day h =
    let low : nth_year 0 ≤ℤ day = omega (arith, signed_arith, days_from_civil-min) in
    let found = among nth_year 19_998 day low in (
      (year_of found.0 found.1, found.2, refl, refl),
      found.3,
      λ other first low. later other first.0 first.1 first.2 first.3 low,
    )
  where
    later : (other : ℤ) (d : Date)
        → epoch_day d ≡ other
        → d.month ≡ 1
        → d.day ≡ 1
        → other ≤ℤ day
        → other ≤ℤ greatest_first_day Year day
    later other d is january one low =
        let n = up d.year + 9999 - down d.year in
        let within : n ≤ 19_998 = omega (arith, signed_arith, d.year_in) in
        let year : pos n -ℤ pos 9999 ≡ d.year = omega (arith, signed_arith, d.year_in) in
        let same : nth_year n ≡ other = rw year (rw (january, one) at is) in
        let high = above nth_year 19_998 day n within (rw same low) in
        subst (λ z. z ≤ℤ greatest_first_day Year day) same high

-- the date of a numbered month's first day
month_of : (n : ℕ) → n ≤ 239_987 → Date
month_of n h = record {
  year = pos (n / 12) -ℤ pos 9999;
  month = n % 12 + 1;
  day = 1;
  year_in = omega (arith, signed_arith);
  month_in = omega arith;
  day_in = (omega arith, grind arith);
}

month_greatest : (day : ℤ)
    → IsEpochDay day
    → IsGreatestFirstDay Month day (greatest_first_day Month day)
unfolding month_of
month_greatest day h =
    let low : nth_month 0 ≤ℤ day = omega (arith, signed_arith, days_from_civil-min) in
    let found = among nth_month 239_987 day low in (
      (month_of found.0 found.1, found.2, refl),
      found.3,
      λ other first low. later other first.0 first.1 first.2 low,
    )
  where
    later : (other : ℤ) (d : Date)
        → epoch_day d ≡ other
        → d.day ≡ 1
        → other ≤ℤ day
        → other ≤ℤ greatest_first_day Month day
    later other d is one low =
        let y = up d.year + 9999 - down d.year in
        let n = 12 * y + (d.month - 1) in
        let within : n ≤ 239_987 = omega (arith, signed_arith, d.year_in, d.month_in) in
        let year : pos (n / 12) -ℤ pos 9999 ≡ d.year =
        omega (arith, signed_arith, d.year_in, d.month_in) in
        let month : n % 12 + 1 ≡ d.month = omega (arith, d.month_in) in
        let same : nth_month n ≡ other = rw (year, month, ← one) is in
        let high = above nth_month 239_987 day n within (rw same low) in
        subst (λ z. z ≤ℤ greatest_first_day Month day) same high

-- the function gives the greatest first day of each day that has a date
pub greatest_is : (interval : CalendarInterval) (day : ℤ)
    → IsEpochDay day
    → IsGreatestFirstDay interval day (greatest_first_day interval day)
greatest_is Year day h = year_greatest day h
greatest_is Month day h = month_greatest day h
greatest_is Week day h = week_is day (greatest_first_day Week day) (omega (arith, signed_arith))

-- a timestamp's day has a date
pub day_range : (ns : ℤ) → IsTimestampNanos ns → IsEpochDay (int_div_euclid ns day_ns)
day_range ns h = omega (arith, signed_arith)

-- the first day of a timestamp has a date
pub first_day_range : (interval : CalendarInterval) (ns : ℤ)
    → IsTimestampNanos ns
    → IsEpochDay (greatest_first_day interval (int_div_euclid ns day_ns))
first_day_range interval ns h =
    by interval (greatest_is interval (int_div_euclid ns day_ns) (day_range ns h))
  where
    by : (interval : CalendarInterval)
        → IsGreatestFirstDay
        interval
        (int_div_euclid ns day_ns)
        (greatest_first_day interval (int_div_euclid ns day_ns))
        → IsEpochDay (greatest_first_day interval (int_div_euclid ns day_ns))
    by Year ((d, is, _, _), _, _) = rw is at (epoch_day_range d)
    by Month ((d, is, _), _, _) = rw is at (epoch_day_range d)
    by Week (_, le, most) =
        let early : neg_ℤ (pos 4_371_587) ≤ℤ int_div_euclid ns day_ns =
        omega (arith, signed_arith, day_range ns h) in
        let low = most (neg_ℤ (pos 4_371_587)) refl early in
        omega (arith, signed_arith, day_range ns h)

-- what is the greatest first day of a timestamp's day is the function's
pub known : (interval : CalendarInterval) (ns first : ℤ)
    → IsTimestampNanos ns
    → IsGreatestFirstDay interval (int_div_euclid ns day_ns) first
    → first ≡ greatest_first_day interval (int_div_euclid ns day_ns)
known interval ns first h greatest =
    let day = int_div_euclid ns day_ns in
    let given = greatest_first_day interval day in
    greatest_unique interval day first given greatest (greatest_is interval day (day_range ns h))

-- the start of a timestamp is that of the greatest first day
pub calendar_is : (interval : CalendarInterval) (ns : ℤ)
    → IsTimestampNanos ns
    → IsCalendarStart interval ns (calendar_start interval ns)
calendar_is interval ns h =
    let day = int_div_euclid ns day_ns in
    (greatest_first_day interval day, greatest_is interval day (day_range ns h), refl)
