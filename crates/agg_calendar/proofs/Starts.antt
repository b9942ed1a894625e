-- Starts lie at or below their values and ascend with them; a fixed one is the greatest multiple.
use Rattle.std.proofs.Common.{ℕ, ◌+◌, ◌*◌, ◌<◌, ◌≤◌, ℤ, pos, negsuc, ◌+ℤ◌, ◌*ℤ◌, ◌<ℤ◌, ◌≤ℤ◌, arith}
use Rattle.std.proofs.Common.{FitsSigned}
use Rattle.std.proofs.Math.Nat.{mul-le-mul_left, mul_comm}
use Rattle.std.proofs.lemmas.Int.{by_lt_z}
use Rattle.std.specs.Int.{w64, int_div_euclid}
use borrow.Author.Differences.{up, down}
use Rattle.jiff_core.specs.Timestamp.{IsTimestampNanos}
use Rattle.jiff_core.proofs.SignedLemmas.{signed_arith}
use Rattle.jiff_core.proofs.SignedLemmas.{int_div_euclid-parts}
use Rattle.agg_calendar.specs.FirstDaySearch.{greatest_first_day}
use Rattle.agg_calendar.specs.Start.{day_ns, calendar_start, fixed_start, start_of, IsUsable}
use Rattle.agg_calendar.specs.declared.interval.CalendarInterval.{CalendarInterval}
use Rattle.agg_calendar.specs.declared.interval.PrecomputedDateInterval as interval
use interval.{PrecomputedDateInterval}
use interval.TheVariants.{NotApplicable, FixedNanoseconds, Calendar}
use Rattle.agg_calendar.proofs.GreatestDays.{greatest_is, day_range}

-- a number of 64 bits is a timestamp
pub i64-timestamp : (ns : ℤ) → FitsSigned w64 ns → IsTimestampNanos ns
i64-timestamp ns fits = omega (arith, signed_arith)

-- a quotient that rounds down, times its divisor, is at most the value
quotient_below : (k : ℕ) (value : ℤ) → 0 < k → (pos k *ℤ int_div_euclid value (pos k)) ≤ℤ value
quotient_below k value some =
    by (int_div_euclid value (pos k)) (int_div_euclid-parts value k some).0
  where
    by : (q : ℤ) → up q * k + down value ≤ down q * k + up value → (pos k *ℤ q) ≤ℤ value
    by q h = omega (arith, signed_arith, h, mul_comm (up q) k, mul_comm (down q) k)

-- the value is less than a divisor above it
quotient_near : (k : ℕ) (value : ℤ)
    → 0 < k
    → value <ℤ ((pos k *ℤ int_div_euclid value (pos k)) +ℤ pos k)
quotient_near k value some =
    by (int_div_euclid value (pos k)) (int_div_euclid-parts value k some).1
  where
    by : (q : ℤ)
        → down q * k + up value < up q * k + down value + k
        → value <ℤ ((pos k *ℤ q) +ℤ pos k)
    by q h = omega (arith, signed_arith, h, mul_comm (up q) k, mul_comm (down q) k)

-- a factor that is no greater makes a product that is no greater
product_ascends : (k : ℕ) (a b : ℤ) → a ≤ℤ b → (pos k *ℤ a) ≤ℤ (pos k *ℤ b)
product_ascends k a b le =
    let step : up a + down b ≤ up b + down a = omega (arith, signed_arith) in
    let more = mul-le-mul_left k step in
    omega (arith, signed_arith, more)

-- no multiple that is at most the value lies above that of the quotient
quotient_greatest : (k : ℕ) (value times : ℤ)
    → 0 < k
    → (pos k *ℤ times) ≤ℤ value
    → (pos k *ℤ times) ≤ℤ (pos k *ℤ int_div_euclid value (pos k))
quotient_greatest k value times some h =
    by (int_div_euclid value (pos k)) (quotient_near k value some)
  where
    by : (q : ℤ) → value <ℤ ((pos k *ℤ q) +ℤ pos k) → (pos k *ℤ times) ≤ℤ (pos k *ℤ q)
    by q near =
        by_lt_z q times
        (λ lt.
        let step : up q + 1 + down times ≤ up times + down q = omega (arith, signed_arith) in
        let more = mul-le-mul_left k step in
        absurd (omega (arith, signed_arith, h, near, more)))
        (λ le. product_ascends k times q le)

-- a fixed start is at most the value
pub fixed_start-at_most : (interval value : ℤ)
    → pos 1 ≤ℤ interval
    → fixed_start interval value ≤ℤ value
fixed_start-at_most (pos k) value some = quotient_below k value (omega (arith, signed_arith))
fixed_start-at_most (negsuc k) value some = absurd (omega (arith, signed_arith))

-- the value is less than an interval above a fixed start
pub fixed_start-above : (interval value : ℤ)
    → pos 1 ≤ℤ interval
    → value <ℤ (fixed_start interval value +ℤ interval)
fixed_start-above (pos k) value some = quotient_near k value (omega (arith, signed_arith))
fixed_start-above (negsuc k) value some = absurd (omega (arith, signed_arith))

-- no multiple that is at most the value lies above a fixed start
pub fixed_start-greatest : (interval value times : ℤ)
    → pos 1 ≤ℤ interval
    → (interval *ℤ times) ≤ℤ value
    → (interval *ℤ times) ≤ℤ fixed_start interval value
fixed_start-greatest (pos k) value times some h =
    quotient_greatest k value times (omega (arith, signed_arith)) h
fixed_start-greatest (negsuc k) value times some h = absurd (omega (arith, signed_arith))

-- fixed starts ascend with their values
pub fixed_start-ascends : (interval value later : ℤ)
    → pos 1 ≤ℤ interval
    → value ≤ℤ later
    → fixed_start interval value ≤ℤ fixed_start interval later
fixed_start-ascends interval value later some h =
    let low = fixed_start-at_most interval value some in
    let times = int_div_euclid value interval in
    let within : fixed_start interval value ≤ℤ later = omega (arith, signed_arith, low, h) in
    fixed_start-greatest interval later times some within

-- a calendar's start is at most the timestamp
pub calendar_start-at_most : (interval : CalendarInterval) (ns : ℤ)
    → IsTimestampNanos ns
    → calendar_start interval ns ≤ℤ ns
calendar_start-at_most interval ns h =
    let day = int_div_euclid ns day_ns in
    let low = (greatest_is interval day (day_range ns h)).1 in
    omega (arith, signed_arith, low)

-- a calendar's starts ascend with their timestamps
pub calendar_start-ascends : (interval : CalendarInterval) (ns later : ℤ)
    → IsTimestampNanos ns
    → IsTimestampNanos later
    → ns ≤ℤ later
    → calendar_start interval ns ≤ℤ calendar_start interval later
calendar_start-ascends interval ns later h k le =
    let day = int_div_euclid ns day_ns in
    let later_day = int_div_euclid later day_ns in
    let is = greatest_is interval day (day_range ns h) in
    let most = (greatest_is interval later_day (day_range later k)).2 in
    let no_later : greatest_first_day interval day ≤ℤ later_day =
    omega (arith, signed_arith, is.1, le) in
    let first = most (greatest_first_day interval day) is.0 no_later in
    omega (arith, signed_arith, first)

-- a start is at most the timestamp
pub start_of-at_most : (interval : PrecomputedDateInterval) (ns : ℤ)
    → IsUsable interval
    → IsTimestampNanos ns
    → start_of interval ns ≤ℤ ns
start_of-at_most NotApplicable ns some h = omega (arith, signed_arith)
start_of-at_most (FixedNanoseconds k) ns some h = fixed_start-at_most k ns some
start_of-at_most (Calendar unit) ns some h = calendar_start-at_most unit ns h

-- starts ascend with their timestamps
pub start_of-ascends : (interval : PrecomputedDateInterval) (ns later : ℤ)
    → IsUsable interval
    → IsTimestampNanos ns
    → IsTimestampNanos later
    → ns ≤ℤ later
    → start_of interval ns ≤ℤ start_of interval later
start_of-ascends NotApplicable ns later some h k le = le
start_of-ascends (FixedNanoseconds i) ns later some h k le = fixed_start-ascends i ns later some le
start_of-ascends (Calendar unit) ns later some h k le = calendar_start-ascends unit ns later h k le
