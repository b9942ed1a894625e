-- What values are divided by where it is at least one.
use Rattle.std.proofs.Common.{◌≡◌, ℤ, pos, false, cond, refl, ap, arith}
use Rattle.std.specs.Prelude.{◌≤ℤ◌, int_lt}
use Rattle.std.proofs.lemmas.Int.{ints}
use Rattle.agg_calendar.specs.Start.{IsUsable}
use Rattle.agg_calendar.specs.declared.interval.PrecomputedDateInterval as interval
use interval.{PrecomputedDateInterval}
use interval.TheVariants.{Calendar, FixedNanoseconds, NotApplicable}
use Rattle.agg_composite.specs.accessor.Starts.{by_numbers, by_time}
use Rattle.agg_composite.specs.declared.accessor.divisor.Divisor.TheVariants.{Nothing, Numbers}
use Rattle.agg_composite.specs.declared.accessor.divisor.Divisor.TheVariants.{Time}

width-at_least : (width : ℤ) → pos 1 ≤ℤ width → int_lt width (pos 1) ≡ false
width-at_least width least = grind (arith, ints)

-- a width that is at least one divides numbers
pub numbers-divide : (width : ℤ) → pos 1 ≤ℤ width → by_numbers width ≡ Numbers width
numbers-divide width least =
    ap (λ b. cond b Nothing (Numbers width)) (width-at_least width least)

-- an interval that is usable divides time
pub time-divides : (interval : PrecomputedDateInterval) (offset : ℤ) → IsUsable interval
    → by_time interval offset ≡ Time interval offset
time-divides NotApplicable offset usable = refl
time-divides (FixedNanoseconds ns) offset usable =
    ap (λ b. cond b Nothing (Time (FixedNanoseconds ns) offset)) (width-at_least ns usable)
time-divides (Calendar unit) offset usable = refl
