use Rattle.std.proofs.Common.{arith, pos, ◌+ℤ◌, ◌-ℤ◌, FitsSigned}
use Rattle.std.specs.Int.{w128, int_div_euclid}
use Rattle.std.proofs.lemmas.Int.{to_z-of_z}
use Rattle.jiff_core.specs.Date.{ordinal}
use Rattle.jiff_core.proofs.SignedLemmas.{signed_arith}
use Rattle.agg_calendar.specs.Start.{day_ns}
use Rattle.agg_calendar.specs.declared.interval.CalendarInterval.TheVariants.{Year}
use Rattle.agg_calendar.proofs.FirstDays.{year_is}
use Rattle.agg_calendar.proofs.GreatestDays.{known}
use Rattle.agg_calendar.proofs.start.year_day.Goals as goal

pub returns : goal.returns
returns c =
    let ns = c.args.ns in
    let fits : FitsSigned w128 ns = c.ranges.ns in
    let on = simp to_z-of_z at c.date_at.ensures in
    let day = int_div_euclid ns day_ns in
    let date = c.date_at.result in
    let first = day +ℤ pos 1 -ℤ pos (ordinal date) in
    let greatest = year_is date day first on (omega (arith, signed_arith)) in
    let is = known Year ns first c.requires greatest in
    omega (arith, signed_arith, is)
