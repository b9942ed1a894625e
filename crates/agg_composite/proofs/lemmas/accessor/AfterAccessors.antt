-- Accessors of a source that go on from an after value.
use Rattle.std.proofs.Common.{◌≡◌, ◌<◌, ℕ, List, length, Bool, true, false, Some, refl, sym, ap}
use Rattle.std.proofs.Common.{◌∙◌, subst}
use Rattle.std.specs.Ordering.{is_lt}
use Rattle.std.specs.Option.{is_some}
use Rattle.std.specs.Prelude.{not}
use Rattle.agg_values.specs.Column.{class_of}
use Rattle.agg_values.specs.TypedKey.{CompositeIntermediateKey}
use Rattle.agg_values.specs.TypedKey.key.{Null}
use Rattle.agg_segment.specs.storage.Columns.{StandsForKey, encoded_key}
use Rattle.agg_segment.specs.Segment.{Stored}
use Rattle.agg_request_tree.specs.Source.{min_of, order_of}
use Rattle.agg_request_tree.specs.declared.source.CompositeAggregationSource as kind
use kind.{CompositeAggregationSource}
use Rattle.agg_composite.specs.accessor.Accessors.{AreAccessorsOf, AreOfField, accessors_before}
use Rattle.agg_composite.specs.accessor.Accessors.{is_null, side_at, side_to}
use Rattle.agg_composite.specs.accessor.AfterKey.{projected_side}
use Rattle.agg_composite.specs.accessor.Lanes.{keys_at, lane_of, lanes}
use Rattle.agg_composite.specs.accessor.Least.{AreLeastIn}
use Rattle.agg_composite.specs.declared.accessor.accessor.CompositeAccessor.{CompositeAccessor}
use Rattle.agg_composite.specs.declared.accessor.accessor.CompositeSourceAccessors.{
  CompositeSourceAccessors,
}
use Rattle.agg_composite.proofs.lemmas.accessor.LaneSides.{lane_sides}

module _ (segment : Stored) (source : CompositeAggregationSource)
    (accessors : List CompositeAccessor) (of_field : AreOfField segment source accessors) where
  -- accessors that go on from an after value
  pub after_accessors : (k : CompositeIntermediateKey) (a : CompositeSourceAccessors)
      → a.accessors ≡ accessors
      → AreLeastIn (min_of source) accessors a.min
      → a.after_key_accessor_idx ≡ lane_of source (accessors_before source k accessors)
      → a.skip_missing ≡ is_lt (side_to source (Some k) Null)
      → a.is_after_key_explicit_missing ≡ is_null (Some k)
      → ((number : ℕ) → a.after_key_accessor_idx < length (lanes source accessors)
      → StandsForKey (keys_at source accessors a.after_key_accessor_idx) number
      → projected_side (order_of source) a.after_key number
      ≡ side_to source (Some k)
      (encoded_key (keys_at source accessors a.after_key_accessor_idx) number))
      → AreAccessorsOf segment source (Some k) a
  after_accessors k a is least index skip explicit at = record {
    columns = subst (AreOfField segment source) (sym is) of_field;
    least = subst (λ xs. AreLeastIn (min_of source) xs a.min) (sym is) least;
    explicit = explicit;
    skip = skip;
    index = subst
        (λ xs. a.after_key_accessor_idx ≡ lane_of source (accessors_before source k xs)) (sym is)
        index;
    sides = subst (λ xs. (i number : ℕ) → i < length (lanes source xs)
        → StandsForKey (keys_at source xs i) number
        → side_at (order_of source) a i number
        ≡ side_to source (Some k) (encoded_key (keys_at source xs i) number)) (sym is)
        (lane_sides segment source accessors of_field k a.after_key_accessor_idx index
        (projected_side (order_of source) a.after_key) at);
  }

-- no class is that of Null
pub null_by_class : (k : CompositeIntermediateKey) (b : Bool) → is_some (class_of k) ≡ not b
    → b ≡ is_null (Some k)
null_by_class k b is = twice b ∙ ap not (sym is) ∙ classless k
  where
    twice : (b : Bool) → b ≡ not (not b)
    twice true = refl
    twice false = refl

    classless : (k : CompositeIntermediateKey) → not (is_some (class_of k)) ≡ is_null (Some k)
    classless Null = refl
    classless _ = refl
