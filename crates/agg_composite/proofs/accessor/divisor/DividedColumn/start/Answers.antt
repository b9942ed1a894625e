use Rattle.std.proofs.Common.{rules, ℤ, FitsSigned, Option, option_map, sym, subst}
use Rattle.std.specs.Int.{w64}
use Rattle.std.proofs.lemmas.Int.{to_z-of_z}
use Rattle.agg_calendar.specs.Start.{fixed_start, start_with_offset}
use Rattle.agg_segment.specs.storage.Columns.{encoded_key}
use Rattle.agg_composite.specs.accessor.Starts.{GivesStartOf, divided}
use Rattle.agg_composite.specs.declared.accessor.divisor.Divisor.{Divisor}
use Rattle.agg_composite.proofs.accessor.divisor.DividedColumn.start.Goals as goal

pub returns-in-Numbers : goal.returns-in-Numbers
returns-in-Numbers c =
    let key = encoded_key c.args.self.now.column.now.keys c.args.number in
    let width = c.in-Numbers.width in
    let fits : FitsSigned w64 width = search rules in
    subst (λ (d : Divisor). GivesStartOf (divided d key) c.start_of_number.result)
    (sym c.in-Numbers.is)
    (subst (λ (p : ℤ × Option ℤ). GivesStartOf (option_map (fixed_start p.0) p.1)
    c.start_of_number.result)
    (λ x. (to_z-of_z w64 width fits x, c.counted_number.ensures.counted x))
    c.start_of_number.ensures)

pub returns-in-Time : goal.returns-in-Time
returns-in-Time c =
    let key = encoded_key c.args.self.now.column.now.keys c.args.number in
    let offset = c.in-Time.offset_ns in
    let fits : FitsSigned w64 offset = search rules in
    subst (λ (d : Divisor). GivesStartOf (divided d key) c.start_of_date.result)
    (sym c.in-Time.is)
    (subst (λ (p : ℤ × Option ℤ). GivesStartOf
    (option_map (start_with_offset c.in-Time.interval p.0) p.1) c.start_of_date.result)
    (λ x. (to_z-of_z w64 offset fits x, c.date_of.ensures x))
    c.start_of_date.ensures)
