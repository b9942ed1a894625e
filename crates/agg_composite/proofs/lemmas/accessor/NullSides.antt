-- How Null stands to an after value.
use Rattle.std.proofs.Common.{◌≡◌, ◌≢◌, ◌<◌, ℕ, inl, inr, Bool, true, false, Ordering}
use Rattle.std.proofs.Common.{Less, Equal, Greater, Option, None, Some, refl, sym, ◌∙◌, arith}
use Rattle.std.proofs.lemmas.Cmp.{tied_itself}
use Rattle.std.specs.Ordering.{nat_cmp, is_lt}
use Rattle.std.specs.Prelude.{if◌then◌else◌}
use Rattle.agg_values.specs.KeyOrder.{key_order, null_rank, null_side}
use Rattle.agg_values.specs.Column.{class_rank}
use Rattle.agg_values.specs.TypedKey.{CompositeIntermediateKey}
use Rattle.agg_values.specs.TypedKey.key.{Null}
use Rattle.agg_values.specs.declared.order.MissingOrder.{MissingOrder}
use Rattle.agg_values.specs.declared.order.Order.{Order}
use Rattle.agg_values.proofs.KeyOrder.{key_order-total}
use Rattle.agg_segment.specs.Segment.{Stored}
use Rattle.agg_request_tree.specs.Source.{missing_order_of, order_of}
use Rattle.agg_request_tree.specs.declared.source.CompositeAggregationSource as kind
use kind.{CompositeAggregationSource}
use Rattle.agg_composite.specs.accessor.Accessors.{AreAccessorsOf, is_null, side_to}
use Rattle.agg_composite.specs.declared.accessor.accessor.CompositeSourceAccessors.{
  CompositeSourceAccessors,
}
use Rattle.agg_composite.proofs.lemmas.accessor.KeyComparisons.{decided, null_rank-of_class}
use Rattle.agg_composite.proofs.lemmas.accessor.KeyComparisons.{null_sides}

-- Null before a key is Less, and after it Greater
pub null_key : (order : Order) (missing : MissingOrder) (k : CompositeIntermediateKey)
    → 0 < class_rank k → (side : ℕ) (o : Ordering) → null_side order missing ≡ side
    → nat_cmp side 1 ≡ o → (o ≢ Equal) → key_order order missing Null k ≡ o
null_key order missing k some side o is compared n =
    decided (nat_cmp (null_side order missing) (null_rank order missing k)) _ o
    ((λ x. nat_cmp (is x) (null_rank-of_class order missing k some x)) ∙ compared) n

-- a side, by whether it is Less and whether the after value is Null
abbrev side_told : Bool → Bool → Ordering
side_told less explicit = if less then Less else (if explicit then Equal else Greater)

some_side : (order : Order) (missing : MissingOrder) (k : CompositeIntermediateKey)
    → 0 < class_rank k
    → key_order order missing Null k ≡ side_told (is_lt (key_order order missing Null k)) false
some_side order missing k some = elim (null_sides order missing) [
  | inl is ↦
      let less : key_order order missing Null k ≡ Less =
      null_key order missing k some 0 Less is refl (λ x. cc) in
      less ∙ sym (λ x. side_told (is_lt (less x)) false)
  | inr is ↦
      let greater : key_order order missing Null k ≡ Greater =
      null_key order missing k some 2 Greater is refl (λ x. cc) in
      greater ∙ sym (λ x. side_told (is_lt (greater x)) false)
]

told_by_key : (source : CompositeAggregationSource) (after : Option CompositeIntermediateKey)
    → side_to source after Null ≡ side_told (is_lt (side_to source after Null)) (is_null after)
told_by_key source None = refl
told_by_key source (Some Null) =
    let tied : key_order (order_of source) (missing_order_of source) Null Null ≡ Equal =
    tied_itself (key_order-total (order_of source) (missing_order_of source)) Null in
    tied ∙ sym (λ x. side_told (is_lt (tied x)) true)
told_by_key source (Some k) =
    some_side (order_of source) (missing_order_of source) k (omega arith)

-- Null comes before the after value, is it, or comes after it, as the accessors say
pub null_told : (segment : Stored) (source : CompositeAggregationSource)
    (after : Option CompositeIntermediateKey) (a : CompositeSourceAccessors)
    → AreAccessorsOf segment source after a
    → side_to source after Null
    ≡ (if a.skip_missing then Less
    else (if a.is_after_key_explicit_missing then Equal else Greater))
null_told segment source after a are =
    told_by_key source after ∙ sym (λ x. side_told (are.skip x) (are.explicit x))
