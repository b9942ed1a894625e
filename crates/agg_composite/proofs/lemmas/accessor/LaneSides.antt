-- How the numbers of lanes stand to an after value.
use Rattle.std.proofs.Common.{◌≡◌, ◌≢◌, ◌<◌, ℕ, List, length, cond, inl, inr, Ordering, Less, Equal}
use Rattle.std.proofs.Common.{Greater, Some, refl, sym, ap, ◌∙◌, subst, arith}
use Rattle.std.proofs.lemmas.Cmp.{by_ranked, ranked}
use Rattle.std.specs.Ordering.{match_ordering, nat_cmp, ordering_reverse}
use Rattle.std.specs.Prelude.{◌==◌, count_by}
use Rattle.agg_values.specs.Column.{class_rank}
use Rattle.agg_values.specs.KeyOrder.{key_order, null_side}
use Rattle.agg_values.specs.TypedKey.{CompositeIntermediateKey}
use Rattle.agg_values.specs.TypedKey.key.{Null}
use Rattle.agg_values.specs.declared.order.MissingOrder.{MissingOrder}
use Rattle.agg_values.specs.declared.order.Order.{Order}
use Rattle.agg_values.proofs.KeyOrder.{key_order-total}
use Rattle.agg_segment.specs.storage.Columns.{StandsForKey, encoded_key}
use Rattle.agg_segment.specs.Segment.{Stored}
use Rattle.agg_request_tree.specs.Source.{missing_order_of, order_of}
use Rattle.agg_request_tree.specs.declared.source.CompositeAggregationSource as kind
use kind.{CompositeAggregationSource}
use kind.TheVariants.{DateHistogram, Histogram, Terms}
use Rattle.agg_composite.specs.accessor.Accessors.{AreOfField, accessors_before, side_to}
use Rattle.agg_composite.specs.accessor.Classes.{is_of_class_before}
use Rattle.agg_composite.specs.accessor.Lanes.{column_at, keys_at, lane_of, lane_of_numbers, lanes}
use Rattle.agg_composite.specs.declared.accessor.accessor.CompositeAccessor.{CompositeAccessor}
use Rattle.agg_composite.proofs.lemmas.accessor.ClassSides.{after_index, before_index, class_side}
use Rattle.agg_composite.proofs.lemmas.accessor.KeyClasses.{encoded-rank, some_rank}
use Rattle.agg_composite.proofs.lemmas.accessor.KeyComparisons.{null_sides}
use Rattle.agg_composite.proofs.lemmas.accessor.LaneKeys.{columns-many, numbers-one}
use Rattle.agg_composite.proofs.lemmas.accessor.NullSides.{null_key}

-- a side by how one index stands to another
by_index : (i index : ℕ) (at side : Ordering) → (i < index → side ≡ Less)
    → (i ≡ index → at ≡ side) → (index < i → side ≡ Greater)
    → match_ordering (nat_cmp i index) Less at Greater ≡ side
by_index i index at side below same above =
    by_ranked (i < index) (i ≡ index) (index < i) (nat_cmp i index)
    (ranked i index (nat_cmp i index) refl)
    (λ o l. ap (λ p. match_ordering p Less at Greater) o ∙ sym (below l))
    (λ o e. ap (λ p. match_ordering p Less at Greater) o ∙ same e)
    (λ o l. ap (λ p. match_ordering p Less at Greater) o ∙ sym (above l))

-- a value before Null is Less, and after it Greater
value_null : (order : Order) (missing : MissingOrder) (k : CompositeIntermediateKey)
    → 0 < class_rank k → (side : ℕ) (o : Ordering) → null_side order missing ≡ side
    → nat_cmp side 1 ≡ ordering_reverse o → (o ≢ Equal) → key_order order missing k Null ≡ o
value_null order missing k some side Less is compared n =
    (key_order-total order missing).antisymm k Null
    ∙ ap ordering_reverse (null_key order missing k some side Greater is compared (λ x. cc))
value_null order missing k some side Equal is compared n = absurd (n refl)
value_null order missing k some side Greater is compared n =
    (key_order-total order missing).antisymm k Null
    ∙ ap ordering_reverse (null_key order missing k some side Less is compared (λ x. cc))

module _ (segment : Stored) (source : CompositeAggregationSource)
    (accessors : List CompositeAccessor) (of_field : AreOfField segment source accessors) where
  -- how a number of the accessor at an index stands to an after value
  abbrev number_side : CompositeIntermediateKey → ℕ → ℕ → Ordering
  number_side k i number = side_to source (Some k) (encoded_key (column_at accessors i) number)

  -- beside a value
  value_sides : (k : CompositeIntermediateKey) → 0 < class_rank k → (index : ℕ)
      → index ≡ count_by (λ a. is_of_class_before (order_of source) k a.column.now.keys) accessors
      → (i number : ℕ) (at : Ordering) → i < length accessors
      → (i ≡ index → at ≡ number_side k i number)
      → match_ordering (nat_cmp i index) Less at Greater ≡ number_side k i number
  value_sides k some index is i number at l same =
      by_index i index at (number_side k i number)
      (λ below. class_side (order_of source) (missing_order_of source) (column_at accessors i)
      number k Less some (before_index (order_of source) accessors of_field.classes k i
      (omega (arith, below, is)) l) (λ x. cc))
      same
      (λ above. class_side (order_of source) (missing_order_of source) (column_at accessors i)
      number k Greater some (after_index (order_of source) accessors of_field.classes k i
      (omega (arith, above, is)) l) (λ x. cc))

  has_class : (i number : ℕ) → 0 < class_rank (encoded_key (column_at accessors i) number)
  has_class i number =
      rw (encoded-rank (column_at accessors i) number) (some_rank (column_at accessors i))

  -- beside Null
  null_accessor_sides : (index : ℕ) → index ≡ accessors_before source Null accessors
      → (i number : ℕ) (at : Ordering) → i < length accessors
      → (i ≡ index → at ≡ number_side Null i number)
      → match_ordering (nat_cmp i index) Less at Greater ≡ number_side Null i number
  null_accessor_sides index is i number at l same =
      elim (null_sides (order_of source) (missing_order_of source)) [
        | inl side ↦
            let none : index ≡ 0 =
            is ∙ (λ x. cond (side x == 2) (length accessors) 0) in
            by_index i index at (number_side Null i number)
            (λ below. absurd (omega (arith, below, none)))
            same
            (λ above. value_null (order_of source) (missing_order_of source) _ (has_class i number)
            0 Greater side refl (λ x. cc))
        | inr side ↦
            let all : index ≡ length accessors =
            is ∙ (λ x. cond (side x == 2) (length accessors) 0) in
            by_index i index at (number_side Null i number)
            (λ below. value_null (order_of source) (missing_order_of source) _ (has_class i number)
            2 Less side refl (λ x. cc))
            same
            (λ above. absurd (omega (arith, above, all, l)))
      ]

  sides_by_key : (k : CompositeIntermediateKey) (index : ℕ)
      → index ≡ accessors_before source k accessors → (i number : ℕ) (at : Ordering)
      → i < length accessors → (i ≡ index → at ≡ number_side k i number)
      → match_ordering (nat_cmp i index) Less at Greater ≡ number_side k i number
  sides_by_key Null index is i number at l same =
      null_accessor_sides index is i number at l same
  sides_by_key k index is i number at l same =
      value_sides k (omega arith) index is i number at l same

  -- beside any key, in the columns of the accessors
  column_sides : (k : CompositeIntermediateKey) (index : ℕ)
      → index ≡ accessors_before source k accessors → (side : ℕ → Ordering)
      → ((number : ℕ) → index < length accessors → StandsForKey (column_at accessors index) number
      → side number ≡ number_side k index number)
      → (i number : ℕ) → i < length accessors → StandsForKey (column_at accessors i) number
      → match_ordering (nat_cmp i index) Less (side number) Greater ≡ number_side k i number
  column_sides k index is side at i number l stands =
      sides_by_key k index is i number (side number) l
      (λ same. subst (λ j. j < length accessors → StandsForKey (column_at accessors j) number
      → side number ≡ number_side k j number)
      (sym same) (at number) l stands)

-- beside any key, in the lanes of a source
pub lane_sides : (segment : Stored) (source : CompositeAggregationSource)
    (accessors : List CompositeAccessor) → AreOfField segment source accessors
    → (k : CompositeIntermediateKey) (index : ℕ)
    → index ≡ lane_of source (accessors_before source k accessors) → (side : ℕ → Ordering)
    → ((number : ℕ) → index < length (lanes source accessors)
    → StandsForKey (keys_at source accessors index) number
    → side number ≡ side_to source (Some k) (encoded_key (keys_at source accessors index) number))
    → (i number : ℕ) → i < length (lanes source accessors)
    → StandsForKey (keys_at source accessors i) number
    → match_ordering (nat_cmp i index) Less (side number) Greater
    ≡ side_to source (Some k) (encoded_key (keys_at source accessors i) number)
lane_sides segment (Terms s) accessors of_field k index is side at i number l stands =
    let long = columns-many accessors in
    column_sides segment (Terms s) accessors of_field k index is side
    (λ n within here. at n (omega (arith, within, long)) here) i number (omega (arith, l, long))
    stands
lane_sides segment (DateHistogram s) accessors of_field k index is side at i number l stands =
    let long = columns-many accessors in
    column_sides segment (DateHistogram s) accessors of_field k index is side
    (λ n within here. at n (omega (arith, within, long)) here) i number (omega (arith, l, long))
    stands
lane_sides segment (Histogram s) accessors of_field k index is side at i number l stands =
    let one = numbers-one accessors in
    by_index i index (side number) _
    (λ below. absurd (omega (arith, below, is)))
    (λ same. subst (λ j. j < length (lane_of_numbers accessors)
    → StandsForKey (keys_at (Histogram s) accessors j) number
    → side number
    ≡ side_to (Histogram s) (Some k) (encoded_key (keys_at (Histogram s) accessors j) number))
    (sym same) (at number) l stands)
    (λ above. absurd (omega (arith, above, l, one)))
