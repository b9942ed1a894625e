use Rattle.std.proofs.Common.{sym, subst}
use Rattle.std.specs.Prelude.{option_map}
use Rattle.agg_composite.specs.accessor.Accessors.{AreAccessorsOf}
use Rattle.agg_composite.proofs.lemmas.accessor.AccessorColumns.{field_accessors}
use Rattle.agg_composite.proofs.lemmas.accessor.LeastValues.{least-of}
use Rattle.agg_composite.proofs.accessor.accessor.CompositeSourceAccessors.build_for_source.Goals
    as goal

pub returns-in-Some-clause-ok : goal.returns-in-Some-clause-ok
returns-in-Some-clause-ok c =
    subst (λ opt. AreAccessorsOf c.args.reader.now c.args.source.now (option_map (λ k. k.now) opt)
    c.going_on.result) (sym c.in-Some.is) (c.going_on.ensures c.args.reader.now
    (field_accessors c.args.reader.now c.args.source.now c.field.result.now
    c.in_ok-accessors.accessors c.columns-columns.result.now c.in_ok-division.ensures.interval
    c.field.ensures c.in_ok-accessors.ensures.columns c.columns-columns.ensures.of_field
    c.columns-columns.ensures.classes c.in_ok-accessors.ensures.each)
    (least-of c.args.source.now c.in_ok-accessors.accessors c.in_ok-min.min c.as_slice.ensures
    c.min.ensures c.in_ok-min.ensures))

pub returns-in-None-clause-ok : goal.returns-in-None-clause-ok
returns-in-None-clause-ok c =
    subst (λ opt. AreAccessorsOf c.args.reader.now c.args.source.now (option_map (λ k. k.now) opt)
    c.from_the_start.result) (sym c.in-None.is) (c.from_the_start.ensures c.args.reader.now
    c.args.source.now (sym c.order.ensures)
    (field_accessors c.args.reader.now c.args.source.now c.field.result.now
    c.in_ok-accessors.accessors c.columns-columns.result.now c.in_ok-division.ensures.interval
    c.field.ensures c.in_ok-accessors.ensures.columns c.columns-columns.ensures.of_field
    c.columns-columns.ensures.classes c.in_ok-accessors.ensures.each)
    (least-of c.args.source.now c.in_ok-accessors.accessors c.in_ok-min.min c.as_slice.ensures
    c.min.ensures c.in_ok-min.ensures))
