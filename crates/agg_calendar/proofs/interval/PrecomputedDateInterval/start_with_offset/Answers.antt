use Rattle.std.proofs.Common.{arith, ◌-ℤ◌, FitsSigned, subst}
use Rattle.std.specs.Int.{w64, w128}
use Rattle.std.proofs.lemmas.Int.{to_z-of_z}
use Rattle.jiff_core.proofs.SignedLemmas.{signed_arith}
use Rattle.agg_calendar.specs.Start.{GivesStart}
use Rattle.agg_calendar.proofs.interval.PrecomputedDateInterval.start_with_offset.Goals as goal

pub returns : goal.returns
returns c =
    let value_fits : FitsSigned w64 c.args.value_ns = c.ranges.value_ns in
    let offset_fits : FitsSigned w64 c.args.offset_ns = c.ranges.offset_ns in
    let value = simp to_z-of_z at c.from.ensures in
    let offset = simp to_z-of_z at c.from-2.ensures in
    let value_wide : FitsSigned w128 c.args.value_ns = omega (arith, signed_arith) in
    let offset_wide : FitsSigned w128 c.args.offset_ns = omega (arith, signed_arith) in
    let moved_fits : FitsSigned w128 (c.args.value_ns -ℤ c.args.offset_ns) =
    omega (arith, signed_arith) in
    let start = simp (value, offset, to_z-of_z) at c.unbounded_start.ensures.value in
    subst (λ start. GivesStart start c.in_range.result) (omega (arith, signed_arith, start))
    c.in_range.ensures
