-- A timestamp has one start, the one that the function gives.
use Rattle.std.proofs.Common.{◌≡◌, ◌↔◌, refl, sym, ℤ, pos, ◌*ℤ◌, ◌≤ℤ◌, arith, subst}
use Rattle.std.specs.Int.{int_div_euclid}
use Rattle.jiff_core.specs.Timestamp.{IsTimestampNanos}
use Rattle.jiff_core.proofs.SignedLemmas.{signed_arith}
use Rattle.agg_calendar.specs.Start.{IsCalendarStart, IsFixedStart, IsStart, IsUsable, day_ns}
use Rattle.agg_calendar.specs.Start.{calendar_start, fixed_start, start_of}
use Rattle.agg_calendar.specs.declared.interval.CalendarInterval.{CalendarInterval}
use Rattle.agg_calendar.specs.declared.interval.PrecomputedDateInterval as interval
use interval.{PrecomputedDateInterval}
use interval.TheVariants.{NotApplicable, FixedNanoseconds, Calendar}
use Rattle.agg_calendar.proofs.GreatestDays.{calendar_is, known}
use Rattle.agg_calendar.proofs.Starts.{fixed_start-at_most, fixed_start-greatest}

-- the start of a fixed interval is one
fixed_is : (interval value : ℤ)
    → pos 1 ≤ℤ interval
    → IsFixedStart interval value (fixed_start interval value)
fixed_is interval value some = (
  (int_div_euclid value interval, refl),
  fixed_start-at_most interval value some,
  λ times h. fixed_start-greatest interval value times some h,
)

-- there is no other of a fixed interval
fixed_one : (interval value start : ℤ)
    → pos 1 ≤ℤ interval
    → IsFixedStart interval value start
    → start ≡ fixed_start interval value
fixed_one interval value start some ((times, is), low, most) =
    let given = fixed_start interval value in
    let within : (interval *ℤ times) ≤ℤ value = subst (λ z. z ≤ℤ value) is low in
    let below = fixed_start-greatest interval value times some within in
    let under : start ≤ℤ given = subst (λ z. z ≤ℤ given) (sym is) below in
    let over : given ≤ℤ start =
    most (int_div_euclid value interval) (fixed_start-at_most interval value some) in
    omega (arith, signed_arith, under, over)

-- there is no other of a calendar interval
calendar_one : (interval : CalendarInterval) (ns start : ℤ)
    → IsTimestampNanos ns
    → IsCalendarStart interval ns start
    → start ≡ calendar_start interval ns
calendar_one interval ns start h (first, greatest, is) =
    subst (λ z. start ≡ z *ℤ day_ns) (known interval ns first h greatest) is

-- a timestamp has one start
pub one_start : (interval : PrecomputedDateInterval) (ns start : ℤ)
    → IsUsable interval
    → IsTimestampNanos ns
    → IsStart interval ns start ↔ (start ≡ start_of interval ns)
one_start NotApplicable ns start usable h = (λ is. is, λ is. is)
one_start (FixedNanoseconds interval) ns start usable h = (
  fixed_one interval ns start usable,
  λ is. subst (λ z. IsFixedStart interval ns z) (sym is) (fixed_is interval ns usable),
)
one_start (Calendar interval) ns start usable h = (
  calendar_one interval ns start h,
  λ is. subst (λ z. IsCalendarStart interval ns z) (sym is) (calendar_is interval ns h),
)
