use Rattle.std.proofs.Common.{◌≡◌, ◌≤◌, Some, take}
use Rattle.std.specs.Prelude.{count_by}
use Rattle.agg_values.specs.Column.{class_of}
use Rattle.agg_values.specs.TypedKey.{CompositeIntermediateKey}
use Rattle.agg_composite.specs.accessor.Classes.{is_of_class_before}
use Rattle.agg_composite.proofs.accessor.accessor.build.count_of_classes_before.Given as goal

abbrev pub invariant-loop-accessor : goal.invariant-loop-accessor
invariant-loop-accessor l = record {
  few : l.before ≤ l.accessor-index;
  told : (key : CompositeIntermediateKey) → class_of key ≡ Some l.class
      → l.before ≡ count_by (λ a. is_of_class_before l.order key a.column.now.keys)
      (take l.accessor-index l.accessors);
}
