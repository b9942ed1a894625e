use Rattle.std.proofs.Common.{◌≡◌, ◌∙◌, Some, sym}
use Rattle.agg_values.specs.Column.{class_of}
use Rattle.agg_values.specs.TypedKey.{CompositeIntermediateKey}
use Rattle.agg_composite.specs.declared.accessor.after_key.PrecomputedAfterKey.TheVariants.{
  AfterLast,
}
use Rattle.agg_composite.specs.declared.accessor.after_key.PrecomputedAfterKey.TheVariants.{Next}
use Rattle.agg_composite.proofs.lemmas.accessor.ClassRanks.{some_class}
use Rattle.agg_composite.proofs.lemmas.accessor.Places.{class_above, class_below, requested_side}
use Rattle.agg_composite.proofs.accessor.after_key.PrecomputedAfterKey.precompute.Goals as goal

pub returns-in-Less : goal.returns-in-Less
returns-in-Less c =
    let k : CompositeIntermediateKey = c.args.source_after_key.now in
    let is : class_of k ≡ Some c.in-Some.class =
    sym c.column_pagination_order.ensures ∙ c.in-Some.is in
    requested_side c.args.order c.args.missing_order c.args.composite_accessor.now.column.now.keys
    k AfterLast (some_class k c.in-Some.class is)
    (class_above c.args.composite_accessor.now.column.now.keys k
    (sym (c.cmp_class.ensures k is) ∙ c.in-Less.is))

pub returns-in-Equal : goal.returns-in-Equal
returns-in-Equal c =
    let k : CompositeIntermediateKey = c.args.source_after_key.now in
    let is : class_of k ≡ Some c.in-Some.class =
    sym c.column_pagination_order.ensures ∙ c.in-Some.is in
    requested_side c.args.order c.args.missing_order c.args.composite_accessor.now.column.now.keys
    k c.precompute_in_class.result (some_class k c.in-Some.class is) c.precompute_in_class.ensures

pub returns-in-Greater : goal.returns-in-Greater
returns-in-Greater c =
    let k : CompositeIntermediateKey = c.args.source_after_key.now in
    let is : class_of k ≡ Some c.in-Some.class =
    sym c.column_pagination_order.ensures ∙ c.in-Some.is in
    requested_side c.args.order c.args.missing_order c.args.composite_accessor.now.column.now.keys
    k (Next 0) (some_class k c.in-Some.class is)
    (class_below c.args.composite_accessor.now.column.now.keys k
    (sym (c.cmp_class.ensures k is) ∙ c.in-Greater.is))
