-- What encoded keys stand for compares as they do, and is canonical.
use Rattle.std.proofs.Common.{◌≡◌, ℕ, ◌+◌, ◌<◌, ◌^◌, inl, inr, List, length, Ordering, Less}
use Rattle.std.proofs.Common.{Greater, refl, sym, ap, ◌∙◌, subst, arith}
use Rattle.std.proofs.lemmas.Cmp.{by_ranked, ranked, tied_itself, nat_cmp_total}
use Rattle.std.specs.Ordering.{nat_cmp, ordering_then, ordering_reverse}
use Rattle.agg_values.specs.KeyOrder.{ascending_order, directed, null_rank, null_side, key_order}
use Rattle.agg_values.specs.Column.{class_rank}
use Rattle.agg_values.specs.TypedKey.{CompositeIntermediateKey, IsCanonical}
use Rattle.agg_values.specs.TypedKey.key.{Null}
use Rattle.agg_values.specs.declared.order.MissingOrder.{MissingOrder}
use Rattle.agg_values.specs.declared.order.Order.{Order}
use Rattle.agg_values.proofs.KeyOrder.{key_order-total}
use Rattle.agg_segment.specs.storage.Columns.{StandsForKey, encoded_key}
use Rattle.agg_request_tree.specs.Source.{missing_order_of, order_of}
use Rattle.agg_request_tree.specs.declared.source.CompositeAggregationSource as kind
use kind.{CompositeAggregationSource}
use Rattle.agg_composite.specs.accessor.Encoding.{StandsFor, encoded_at, encoded_null}
use Rattle.agg_composite.specs.accessor.Encoding.{encoded_order, null_lane, raw_of}
use Rattle.agg_composite.specs.accessor.Lanes.{class_order, keys_at, lanes}
use Rattle.agg_composite.specs.declared.accessor.accessor.CompositeAccessor.{CompositeAccessor}
use Rattle.agg_composite.specs.declared.accessor.encoded.Encoded.{Encoded}
use Rattle.agg_composite.proofs.lemmas.accessor.EncodedOrder.{
  key_order-total as encoded_order-total,
}
use Rattle.agg_composite.proofs.lemmas.accessor.KeyClasses.{encoded-canonical, encoded-rank}
use Rattle.agg_composite.proofs.lemmas.accessor.KeyClasses.{some_rank}
use Rattle.agg_composite.proofs.lemmas.accessor.KeyComparisons.{by_class, decided, in_column}
use Rattle.agg_composite.proofs.lemmas.accessor.KeyComparisons.{null_rank-of_class, null_sides}
use Rattle.agg_composite.proofs.lemmas.accessor.KeyComparisons.{values-order}
use Rattle.agg_composite.proofs.lemmas.accessor.LaneOrder.{AreLanesInOrder}
use Rattle.agg_composite.proofs.lemmas.accessor.NumberOrder.{greater, less}

-- a number of a lane and its key
abbrev IsNumber : CompositeAggregationSource → List CompositeAccessor → ℕ → ℕ → Type 0
IsNumber source accessors i n =
    (i < length (lanes source accessors)) × (n < 2 ^ 64)
    × StandsForKey (keys_at source accessors i) n

module _ (source : CompositeAggregationSource) (accessors : List CompositeAccessor)
    (in_order : AreLanesInOrder source accessors) where
  same_place : (i n m : ℕ) → IsNumber source accessors i n → IsNumber source accessors i m
      → directed (order_of source) ascending_order (encoded_key (keys_at source accessors i) n)
      (encoded_key (keys_at source accessors i) m)
      ≡ encoded_order (encoded_at (order_of source) i n) (encoded_at (order_of source) i m)
  same_place i n m is_n is_m =
      in_column (order_of source) (keys_at source accessors i)
      (in_order.order i is_n.0) n m is_n.1 is_m.1 is_n.2 is_m.2
      ∙ sym (ap (λ o. ordering_then o (nat_cmp (raw_of (order_of source) n)
      (raw_of (order_of source) m))) (tied_itself nat_cmp_total (i + 1)))

  values-compare : (i j n m : ℕ) → IsNumber source accessors i n → IsNumber source accessors j m
      → directed (order_of source) ascending_order (encoded_key (keys_at source accessors i) n)
      (encoded_key (keys_at source accessors j) m)
      ≡ encoded_order (encoded_at (order_of source) i n) (encoded_at (order_of source) j m)
  values-compare i j n m is_n is_m =
      let classes_are : class_order (order_of source)
      (class_rank (encoded_key (keys_at source accessors i) n))
      (class_rank (encoded_key (keys_at source accessors j) m)) ≡ nat_cmp i j =
      (λ x. class_order (order_of source) (encoded-rank (keys_at source accessors i) n x)
      (encoded-rank (keys_at source accessors j) m x))
      ∙ in_order.classes i j is_n.0 is_m.0 in
      let raws : Ordering = nat_cmp (raw_of (order_of source) n) (raw_of (order_of source) m) in
      by_ranked (i < j) (i ≡ j) (j < i) (nat_cmp i j) (ranked i j (nat_cmp i j) refl)
      (λ o l. by_class (order_of source) _ _ Less (classes_are ∙ o) (λ x. cc)
      ∙ ap (λ p. ordering_then p raws) (sym (less (i + 1) (j + 1) (omega arith))))
      (λ o e. subst (λ x. IsNumber source accessors x m
      → directed (order_of source) ascending_order (encoded_key (keys_at source accessors i) n)
      (encoded_key (keys_at source accessors x) m)
      ≡ encoded_order (encoded_at (order_of source) i n) (encoded_at (order_of source) x m)) e
      (same_place i n m is_n) is_m)
      (λ o l. by_class (order_of source) _ _ Greater (classes_are ∙ o) (λ x. cc)
      ∙ ap (λ p. ordering_then p raws) (sym (greater (i + 1) (j + 1) (omega arith))))

  has_class : (i n : ℕ) → 0 < class_rank (encoded_key (keys_at source accessors i) n)
  has_class i n =
      rw (encoded-rank (keys_at source accessors i) n) (some_rank (keys_at source accessors i))

  -- Null beside a value
  null_value : (i n : ℕ) → i < length (lanes source accessors)
      → key_order (order_of source) (missing_order_of source) Null
      (encoded_key (keys_at source accessors i) n)
      ≡ encoded_order (encoded_null source accessors) (encoded_at (order_of source) i n)
  null_value i n l =
      let o : Order = order_of source in
      let missing : MissingOrder = missing_order_of source in
      let k : CompositeIntermediateKey = encoded_key (keys_at source accessors i) n in
      let rank : null_rank o missing k ≡ 1 = null_rank-of_class o missing k (has_class i n) in
      elim (null_sides o missing) [
        | inl e ↦ decided (nat_cmp (null_side o missing) (null_rank o missing k)) _ Less
            ((λ x. nat_cmp (e x) (rank x)) ∙ refl) (λ x. cc)
            ∙ sym (decided (nat_cmp (encoded_null source accessors).lane (i + 1))
            (nat_cmp 0 (raw_of o n)) Less
            ((λ x. nat_cmp (null_lane (e x) (length (lanes source accessors))) (i + 1))
            ∙ less 0 (i + 1) (omega arith)) (λ x. cc))
        | inr e ↦ decided (nat_cmp (null_side o missing) (null_rank o missing k)) _ Greater
            ((λ x. nat_cmp (e x) (rank x)) ∙ refl) (λ x. cc)
            ∙ sym (decided (nat_cmp (encoded_null source accessors).lane (i + 1))
            (nat_cmp 0 (raw_of o n)) Greater
            ((λ x. nat_cmp (null_lane (e x) (length (lanes source accessors))) (i + 1))
            ∙ greater (length (lanes source accessors) + 1) (i + 1) (omega arith)) (λ x. cc))
      ]

  -- a value beside Null
  value_null : (i n : ℕ) → i < length (lanes source accessors)
      → key_order (order_of source) (missing_order_of source)
      (encoded_key (keys_at source accessors i) n) Null
      ≡ encoded_order (encoded_at (order_of source) i n) (encoded_null source accessors)
  value_null i n l =
      (key_order-total (order_of source) (missing_order_of source)).antisymm
      (encoded_key (keys_at source accessors i) n) Null
      ∙ ap ordering_reverse (null_value i n l)
      ∙ sym (encoded_order-total.antisymm (encoded_at (order_of source) i n)
      (encoded_null source accessors))

  -- what two encoded keys stand for compares as they do
  pub keys-compare : (e f : Encoded) (k l : CompositeIntermediateKey)
      → StandsFor source accessors e k → StandsFor source accessors f l
      → key_order (order_of source) (missing_order_of source) k l ≡ encoded_order e f
  keys-compare e f k l (inl p) (inl q) =
      (λ x. key_order (order_of source) (missing_order_of source) (p.1 x) (q.1 x))
      ∙ tied_itself (key_order-total (order_of source) (missing_order_of source)) Null
      ∙ sym ((λ x. encoded_order (p.0 x) (q.0 x))
      ∙ tied_itself encoded_order-total (encoded_null source accessors))
  keys-compare e f k l (inl p) (inr (j, m, l_j, fits_m, in_m, f_is, l_is)) =
      (λ x. key_order (order_of source) (missing_order_of source) (p.1 x) (l_is x))
      ∙ null_value j m l_j ∙ sym (λ x. encoded_order (p.0 x) (f_is x))
  keys-compare e f k l (inr (i, n, l_i, fits_n, in_n, e_is, k_is)) (inl q) =
      (λ x. key_order (order_of source) (missing_order_of source) (k_is x) (q.1 x))
      ∙ value_null i n l_i ∙ sym (λ x. encoded_order (e_is x) (q.0 x))
  keys-compare e f k l (inr (i, n, l_i, fits_n, in_n, e_is, k_is))
      (inr (j, m, l_j, fits_m, in_m, f_is, l_is)) =
      (λ x. key_order (order_of source) (missing_order_of source) (k_is x) (l_is x))
      ∙ values-order (order_of source) (missing_order_of source) _ _ (has_class i n)
      (has_class j m)
      ∙ values-compare i j n m (l_i, fits_n, in_n) (l_j, fits_m, in_m)
      ∙ sym (λ x. encoded_order (e_is x) (f_is x))

-- what an encoded key stands for is canonical
pub canonical_key : (source : CompositeAggregationSource) (accessors : List CompositeAccessor)
    (e : Encoded) (k : CompositeIntermediateKey) → StandsFor source accessors e k → IsCanonical k
canonical_key source accessors e k (inl p) = subst IsCanonical (sym p.1) tt
canonical_key source accessors e k (inr (i, n, l_i, fits_n, in_n, e_is, k_is)) =
    subst IsCanonical (sym k_is) (encoded-canonical (keys_at source accessors i) n fits_n)
