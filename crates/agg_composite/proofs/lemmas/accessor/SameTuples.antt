-- Equal encoded tuples stand for one tuple, which occurs no less often than they do.
use Rattle.std.proofs.Common.{◌≡◌, ℕ, zero, suc, ◌+◌, ◌<◌, ◌≤◌, ◌^◌, inl, inr, List, []}
use Rattle.std.proofs.Common.{◌∷◌, true, cond, count_by, length, Ordering, Less}
use Rattle.std.proofs.Common.{Equal, Greater, is_eq, refl, sym, ap, ◌∙◌, subst, arith}
use Rattle.std.specs.BTreeMap.{is_at}
use Rattle.std.specs.List.{AllZip}
use Rattle.std.proofs.lemmas.Bool.{cases_Bool}
use Rattle.std.proofs.lemmas.Cmp.{tied_itself}
use Rattle.std.proofs.lemmas.Map.Lookups.{exact_unsigned}
use Rattle.agg_values.specs.Tuple.{KeyTuple}
use Rattle.agg_values.specs.TypedKey.{CompositeIntermediateKey}
use Rattle.agg_values.specs.declared.order.Order.{Order}
use Rattle.agg_values.specs.declared.order.Order.TheVariants.{Asc, Desc}
use Rattle.agg_values.proofs.KeyOrder.{then_equal}
use Rattle.agg_values.proofs.TupleOrder.{tuple_order-total}
use Rattle.agg_segment.specs.storage.Columns.{encoded_key}
use Rattle.agg_request_tree.specs.Occurrences.{same_tuple}
use Rattle.agg_request_tree.specs.Source.{Sources, order_of, rules_of}
use Rattle.agg_request_tree.specs.declared.source.CompositeAggregationSource as kind
use kind.{CompositeAggregationSource}
use Rattle.agg_request_tree.proofs.Lists.{count-step}
use Rattle.agg_composite.specs.accessor.Encoding.{EncodedTuple, StandFor, StandsFor, encoded_order}
use Rattle.agg_composite.specs.accessor.Encoding.{encoded_tuple_order, null_lane, raw_of}
use Rattle.agg_composite.specs.accessor.Lanes.{keys_at, lanes}
use Rattle.agg_composite.specs.declared.accessor.accessor.CompositeAccessor.{CompositeAccessor}
use Rattle.agg_composite.specs.declared.accessor.accessor.CompositeSourceAccessors.{
  CompositeSourceAccessors,
}
use Rattle.agg_composite.specs.declared.accessor.encoded.Encoded.{Encoded}

-- ---- equal encoded tuples are one

same-key : (e f : Encoded) → encoded_order e f ≡ Equal → e ≡ f
same-key e f same =
    let both = then_equal _ _ same in
    let lane = exact_unsigned e.lane f.lane both.0 in
    let raw = exact_unsigned e.raw f.raw both.1 in
    λ i. record { lane = lane i; raw = raw i }

same-encoded : (es fs : EncodedTuple) → encoded_tuple_order es fs ≡ Equal → es ≡ fs
same-encoded [] [] same = refl
same-encoded [] (f ∷ fs) same = cc
same-encoded (e ∷ es) [] same = cc
same-encoded (e ∷ es) (f ∷ fs) same =
    let both = then_equal (encoded_order e f) (encoded_tuple_order es fs) same in
    let first = same-key e f both.0 in
    let rest = same-encoded es fs both.1 in
    λ i. first i ∷ rest i

-- ---- an encoded tuple stands for one tuple

-- Null has the number of no lane
null-apart : (side accessors i : ℕ) → i < accessors → null_lane side accessors ≡ i + 1 → ⊥
null-apart zero accessors i l e = omega arith
null-apart (suc side) accessors i l e = omega arith

same-number : (order : Order) (n m : ℕ) → n < 2 ^ 64 → m < 2 ^ 64
    → raw_of order n ≡ raw_of order m → n ≡ m
same-number Asc n m fits_n fits_m e = e
same-number Desc n m fits_n fits_m e = omega arith

stands-one : (source : CompositeAggregationSource) (accessors : List CompositeAccessor)
    (e : Encoded) (k l : CompositeIntermediateKey)
    → StandsFor source accessors e k → StandsFor source accessors e l → k ≡ l
stands-one source accessors e k l (inl p) (inl q) = p.1 ∙ sym q.1
stands-one source accessors e k l (inl p) (inr (j, m, l_j, fits_m, in_m, e_is, l_is)) =
    absurd (null-apart _ (length (lanes source accessors)) j l_j
    (ap (λ x. x.lane) (sym p.0 ∙ e_is)))
stands-one source accessors e k l (inr (i, n, l_i, fits_n, in_n, e_is, k_is)) (inl q) =
    absurd (null-apart _ (length (lanes source accessors)) i l_i
    (ap (λ x. x.lane) (sym q.0 ∙ e_is)))
stands-one source accessors e k l (inr (i, n, l_i, fits_n, in_n, e_is, k_is))
    (inr (j, m, l_j, fits_m, in_m, f_is, l_is)) =
    let both = sym e_is ∙ f_is in
    let lane : i + 1 ≡ j + 1 = ap (λ x. x.lane) both in
    let index : i ≡ j = omega (arith, lane) in
    let number = same-number (order_of source) n m fits_n fits_m (ap (λ x. x.raw) both) in
    k_is ∙ (λ t. encoded_key (keys_at source accessors (index t)) (number t)) ∙ sym l_is

stand-one : (sources : Sources) (accessors : List CompositeSourceAccessors) (es : EncodedTuple)
    (ks ls : KeyTuple)
    → StandFor sources accessors es ks → StandFor sources accessors es ls → ks ≡ ls
stand-one [] [] [] [] [] p q = refl
stand-one [] [] [] [] (l ∷ ls) p q = absurd q
stand-one [] [] [] (k ∷ ks) ls p q = absurd p
stand-one [] [] (e ∷ es) ks ls p q = absurd p
stand-one [] (a ∷ accessors) es ks ls p q = absurd p
stand-one (source ∷ sources) [] es ks ls p q = absurd p
stand-one (source ∷ sources) (a ∷ accessors) [] ks ls p q = absurd p
stand-one (source ∷ sources) (a ∷ accessors) (e ∷ es) [] ls p q = absurd p
stand-one (source ∷ sources) (a ∷ accessors) (e ∷ es) (k ∷ ks) [] p q = absurd q
stand-one (source ∷ sources) (a ∷ accessors) (e ∷ es) (k ∷ ks) (l ∷ ls) p q =
    let first = stands-one source a.accessors e k l p.0 q.0 in
    let rest = stand-one sources accessors es ks ls p.1 q.1 in
    λ i. first i ∷ rest i

-- ---- how often it occurs

is-equal : (o : Ordering) → is_eq o ≡ true → o ≡ Equal
is-equal Less e = cc
is-equal Equal e = refl
is-equal Greater e = cc

module _ (sources : Sources) (accessors : List CompositeSourceAccessors) (q : EncodedTuple) where
  -- what an encoded tuple at q stands for, q stands for
  at-q : (e : EncodedTuple) (k : KeyTuple) → is_at (encoded_tuple_order q) e ≡ true
      → StandFor sources accessors e k → StandFor sources accessors q k
  at-q e k at stand =
      subst (λ t. StandFor sources accessors t k)
      (sym (same-encoded q e (is-equal (encoded_tuple_order q e) at))) stand

  -- where q is counted, it stands for a tuple
  pub counted-stands : (es : List EncodedTuple) (ks : List KeyTuple)
      → AllZip (StandFor sources accessors) es ks
      → 0 < count_by (is_at (encoded_tuple_order q)) es
      → (t : KeyTuple) × StandFor sources accessors q t
  counted-stands [] ks p some = absurd (omega arith)
  counted-stands (e ∷ es) [] p some = absurd p
  counted-stands (e ∷ es) (k ∷ ks) p some =
      let at = is_at (encoded_tuple_order q) in
      elim (cases_Bool (at e)) [
        | inl at_it ↦ (k, at-q e k at_it p.0)
        | inr not_at ↦
            let step : count_by at (e ∷ es) ≡ 0 + count_by at es =
            count-step at e es ∙ ap (λ b. cond b 1 0 + count_by at es) not_at in
            counted-stands es ks p.1 (omega (arith, step))
      ]

  -- a tuple for which q stands occurs no less often than q
  pub counted-more : (t : KeyTuple) → StandFor sources accessors q t → (es : List EncodedTuple)
      (ks : List KeyTuple) → AllZip (StandFor sources accessors) es ks
      → count_by (is_at (encoded_tuple_order q)) es
      ≤ count_by (same_tuple (rules_of sources) t) ks
  counted-more t stand [] [] p = omega arith
  counted-more t stand [] (k ∷ ks) p = absurd p
  counted-more t stand (e ∷ es) [] p = absurd p
  counted-more t stand (e ∷ es) (k ∷ ks) p =
      let at = is_at (encoded_tuple_order q) in
      let same = same_tuple (rules_of sources) t in
      let own = count-step at e es in
      let other = count-step same k ks in
      let rest = counted-more t stand es ks p.1 in
      elim (cases_Bool (at e)) [
        | inl at_it ↦
            let one : t ≡ k = stand-one sources accessors q t k stand (at-q e k at_it p.0) in
            let tied : same k ≡ true =
            ap (λ u. same_tuple (rules_of sources) t u) (sym one)
            ∙ ap is_eq (tied_itself (tuple_order-total (rules_of sources)) t) in
            let left = own ∙ ap (λ b. cond b 1 0 + count_by at es) at_it in
            let right = other ∙ ap (λ b. cond b 1 0 + count_by same ks) tied in
            omega (arith, left, right, rest)
        | inr not_at ↦
            let left = own ∙ ap (λ b. cond b 1 0 + count_by at es) not_at in
            omega (arith, left, other, rest)
      ]
