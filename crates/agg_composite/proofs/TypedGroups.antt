-- The groups of encoded tuples are, decoded, those of the tuples that these stand for.
use Rattle.std.proofs.Common.{◌≡◌, ◌<◌, ℕ, zero, suc, List, [], ◌∷◌, Bool, cond, ◌+◌, Some}
use Rattle.std.proofs.Common.{IsSome, is_some, count_by, map, All, Contains, Less, refl, sym, ap}
use Rattle.std.proofs.Common.{◌∙◌, subst, inl, inr, arith}
use Rattle.std.specs.BTreeMap.{is_at}
use Rattle.std.specs.List.{AllByRecursion, AllZip}
use Rattle.std.specs.List.Sorted.{IsStrictlySortedBy}
use Rattle.std.specs.Map.{keys_of, lookup}
use Rattle.std.specs.Ordering.{is_eq}
use Rattle.std.proofs.lemmas.Cmp.{eq_by_cmp_equiv, tied_itself}
use Rattle.std.proofs.lemmas.List.Elements.{All-map}
use Rattle.std.proofs.lemmas.Map.Keys.{IsDistinct-from_sorted}
use Rattle.std.proofs.lemmas.Map.Views.{tells_apart, lookup-from_Contains}
use Rattle.std.proofs.lemmas.Map.Views.{Contains-keys_from_lookup}
use Rattle.std.proofs.lemmas.Option.{same_Some, none-some}
use Rattle.agg_values.specs.KeyOrder.{SourceRules, tuple_order}
use Rattle.agg_values.specs.Names.{Named}
use Rattle.agg_values.specs.Tuple.{KeyTuple}
use Rattle.agg_values.specs.declared.after_key.AfterKey.{AfterKey}
use Rattle.agg_segment.specs.Segment.{Stored}
use Rattle.agg_request_tree.specs.Groups.{Group, Groups}
use Rattle.agg_request_tree.specs.Occurrences.{same_tuple}
use Rattle.agg_request_tree.specs.Source.{rules_of}
use Rattle.agg_request_tree.proofs.Lists.{AllByRecursion-Has, AllByRecursion-from_Has}
use Rattle.agg_request_tree.proofs.Lists.{All-from_Contains, Contains-from_Has, Contains-map, Has}
use Rattle.agg_request_tree.proofs.Lists.{Has-from_Contains, count-step, count_by-map}
use Rattle.agg_request_tree.proofs.Lists.{count_by-positive, count_by-some}
use Rattle.agg_composite.specs.accessor.Accessors.{Fits}
use Rattle.agg_composite.specs.accessor.Decoded.{IsEncoded, decoded}
use Rattle.agg_composite.specs.accessor.Encoding.{EncodedTuple, StandsForTuple, encoded_tuple_order}
use Rattle.agg_composite.specs.declared.accessor.request_data.CompositeAggReqData.{
  CompositeAggReqData,
}
use Rattle.agg_composite.proofs.lemmas.accessor.DecodedTuples.{decoded-is}
use Rattle.agg_composite.proofs.lemmas.accessor.EncodedOrder.{tuple-exact, tuple_order-total}
use Rattle.agg_composite.proofs.lemmas.accessor.TypedOrder.{tuples_compare}
use Rattle.agg_composite.specs.buckets.Cut.{groups_of}
use Rattle.agg_composite.specs.buckets.Laws.{CutsCompose, positive}
use Rattle.agg_composite.proofs.lemmas.buckets.Groups.{cuts, positive-some}
use Rattle.agg_composite.specs.PageEntries.{decoded_groups}

-- whether a tuple is this one
abbrev pub is : EncodedTuple → EncodedTuple → Bool
is q = is_at (encoded_tuple_order q)

-- the groups of tuples ascend and are counted
groups-laws : CutsCompose encoded_tuple_order
groups-laws = cuts encoded_tuple_order tuple_order-total

-- counts by tests that agree on what a list has
count_by-agree_on : {X : Type 0} (p q : X → Bool) (xs : List X)
    → ((x : X) → Has x xs → p x ≡ q x) → count_by p xs ≡ count_by q xs
count_by-agree_on p q [] h = refl
count_by-agree_on p q (x ∷ xs) h =
    count-step p x xs
    ∙ (λ i. cond (h x (inl refl) i) 1 0 + count_by-agree_on p q xs (λ y m. h y (inr m)) i)
    ∙ sym (count-step q x xs)

-- a count that is found is above 0
from-positive : (n v : ℕ) → positive n ≡ Some v → (0 < v) × (v ≡ n)
from-positive zero v h = absurd (none-some v h)
from-positive (suc n) v h = let e = same_Some (suc n) v h in (omega arith, sym e)

-- ---- the groups of tuples

module _ (tuples : List EncodedTuple) where
  -- the groups of the tuples
  abbrev groups : List (EncodedTuple × ℕ)
  groups = groups_of encoded_tuple_order tuples

  -- a group has the count of its tuple
  group-count : (e : EncodedTuple × ℕ) → Contains groups e
      → (0 < e.1) × (e.1 ≡ count_by (is e.0) tuples)
  group-count e m =
      let h = lookup-from_Contains (eq_by_cmp_equiv tuple_order-total) e.0 e.1 groups
      (IsDistinct-from_sorted encoded_tuple_order (keys_of groups)
      (groups-laws.ascending tuples)) m in
      from-positive (count_by (is e.0) tuples) e.1 (sym (groups-laws.counted tuples e.0) ∙ h)

  -- the tuple of a group is among the tuples
  group-tuple : (e : EncodedTuple × ℕ) → Contains groups e → Contains tuples e.0
  group-tuple e m =
      let f = group-count e m in
      let r = count_by-some (is e.0) tuples (omega (arith, f.0, f.1)) in
      subst (Contains tuples) (sym (tells_apart tuple-exact e.0 r.0 r.2)) r.1

  -- each of the tuples has a group
  tuple-group : (t : EncodedTuple) → Contains tuples t → Contains (keys_of groups) t
  tuple-group t m =
      let h = count_by-positive (is t) tuples t m (ap is_eq (tied_itself tuple_order-total t)) in
      let s : IsSome (lookup (is t) groups) =
      ap is_some (groups-laws.counted tuples t ∙ positive-some (count_by (is t) tuples) h) in
      Contains-keys_from_lookup (tells_apart tuple-exact) t groups s

-- ---- tuples that stand for tuples

-- an encoded tuple stands for what it is decoded to
abbrev StandsForDecoded : CompositeAggReqData → EncodedTuple → Type 0
StandsForDecoded req t = StandsForTuple req t (decoded req t)

module _ (req : CompositeAggReqData) where
  -- each visited tuple stands for what it is decoded to
  each-stands : (tuples : List EncodedTuple) (visited : List KeyTuple)
      → AllZip (StandsForTuple req) tuples visited → AllByRecursion (StandsForDecoded req) tuples
  each-stands [] [] stand = tt
  each-stands [] (v ∷ visited) stand = absurd stand
  each-stands (t ∷ tuples) [] stand = absurd stand
  each-stands (t ∷ tuples) (v ∷ visited) stand = (
    subst (StandsForTuple req t) (sym (decoded-is req t v stand.0)) stand.0,
    each-stands tuples visited stand.1,
  )

  -- the visited tuples are decoded to those that they stand for
  decoded-all : (tuples : List EncodedTuple) (visited : List KeyTuple)
      → AllZip (StandsForTuple req) tuples visited → map (decoded req) tuples ≡ visited
  decoded-all [] [] stand = refl
  decoded-all [] (v ∷ visited) stand = absurd stand
  decoded-all (t ∷ tuples) [] stand = absurd stand
  decoded-all (t ∷ tuples) (v ∷ visited) stand =
      let first = decoded-is req t v stand.0 in
      let rest = decoded-all tuples visited stand.1 in
      λ x. first x ∷ rest x

  -- the tuples of groups of tuples that stand for tuples stand for tuples
  pub groups-encoded : (tuples : List EncodedTuple) (visited : List KeyTuple)
      → AllZip (StandsForTuple req) tuples visited
      → All (IsEncoded req) (keys_of (groups_of encoded_tuple_order tuples))
  groups-encoded tuples visited stand =
      let each = each-stands tuples visited stand in
      let of_tuples = groups_of encoded_tuple_order tuples in
      All-map (IsEncoded req) (λ e. e.0) of_tuples
      (All-from_Contains (λ e. IsEncoded req e.0) of_tuples (λ e m. (
        decoded req e.0,
        AllByRecursion-Has (StandsForDecoded req) tuples e.0 each
            (Has-from_Contains tuples e.0 (group-tuple tuples e m)),
      )))

-- ---- the groups, decoded

module _ (segment : Stored) (after : Named AfterKey) (req : CompositeAggReqData)
    (fits : Fits segment after req) (tuples : List EncodedTuple)
    (each : AllByRecursion (StandsForDecoded req) tuples) where
  -- the rules of the sources
  abbrev rules : SourceRules
  rules = rules_of req.req.now.sources

  -- each of the tuples stands for what it is decoded to
  stands : (t : EncodedTuple) → Contains tuples t → StandsForDecoded req t
  stands t m = AllByRecursion-Has (StandsForDecoded req) tuples t each
      (Has-from_Contains tuples t m)

  -- tuples compare as they do decoded
  same-order : (t u : EncodedTuple) → StandsForDecoded req t → StandsForDecoded req u
      → tuple_order rules (decoded req t) (decoded req u) ≡ encoded_tuple_order t u
  same-order t u p q =
      tuples_compare segment after req fits t u (decoded req t) (decoded req u) p q

  -- a tuple's count among the decoded ones
  count-decoded : (q : EncodedTuple) → StandsForDecoded req q
      → count_by (same_tuple rules (decoded req q)) (map (decoded req) tuples)
      ≡ count_by (is q) tuples
  count-decoded q p =
      count_by-map (same_tuple rules (decoded req q)) (decoded req) tuples
      ∙ count_by-agree_on (λ t. same_tuple rules (decoded req q) (decoded req t)) (is q) tuples
      (λ t m. ap is_eq (same-order q t p (stands t (Contains-from_Has tuples t m))))

  -- below as an encoded tuple is below as a decoded one
  below-decoded : (k : EncodedTuple) → StandsForDecoded req k → (es : List (EncodedTuple × ℕ))
      → AllByRecursion (λ e. StandsForDecoded req e.0) es
      → AllByRecursion (λ t. encoded_tuple_order k t ≡ Less) (keys_of es)
      → AllByRecursion (λ t. tuple_order rules (decoded req k) t ≡ Less)
      (keys_of (decoded_groups req es))
  below-decoded k p [] all h = tt
  below-decoded k p (e ∷ es) all h =
      (same-order k e.0 p all.0 ∙ h.0, below-decoded k p es all.1 h.1)

  -- entries in order are groups in order
  sorted-decoded : (es : List (EncodedTuple × ℕ))
      → AllByRecursion (λ e. StandsForDecoded req e.0) es
      → IsStrictlySortedBy encoded_tuple_order (keys_of es)
      → IsStrictlySortedBy (tuple_order rules) (keys_of (decoded_groups req es))
  unfolding IsStrictlySortedBy
  sorted-decoded [] all h = tt
  sorted-decoded (e ∷ es) all h =
      (below-decoded e.0 all.0 es all.1 h.0, sorted-decoded es all.1 h.1)

  -- the tuples of groups are decoded ones
  keys-decoded : (es : List (EncodedTuple × ℕ))
      → keys_of (decoded_groups req es) ≡ map (decoded req) (keys_of es)
  keys-decoded [] = refl
  keys-decoded (e ∷ es) = ap (λ ts. decoded req e.0 ∷ ts) (keys-decoded es)

  -- the number of an entry is how often its tuple is there
  abbrev IsCounted : Group → Type 0
  IsCounted g = (0 < g.1) × (g.1 ≡ count_by (same_tuple rules g.0) (map (decoded req) tuples))

  -- the tuple of a group stands for what it is decoded to
  group-stands : (e : EncodedTuple × ℕ) → Contains (groups tuples) e → StandsForDecoded req e.0
  group-stands e m = stands e.0 (group-tuple tuples e m)

  -- the groups of the decoded tuples
  groups-decoded : Groups rules (map (decoded req) tuples) (decoded_groups req (groups tuples))
  groups-decoded =
      let all = groups tuples in record {
        ascending = sorted-decoded all (AllByRecursion-from_Has (λ e. StandsForDecoded req e.0) all
            (λ e m. group-stands e (Contains-from_Has all e m))) (groups-laws.ascending tuples);
        counted = All-map IsCounted (λ e. (decoded req e.0, e.1)) all
            (All-from_Contains (λ e. IsCounted (decoded req e.0, e.1)) all
            (λ e m. let f = group-count tuples e m in
            (f.0, f.1 ∙ sym (count-decoded e.0 (group-stands e m)))));
        occurring = subst (λ ts. All (Contains (map (decoded req) tuples)) ts)
            (sym (keys-decoded all))
            (All-map (Contains (map (decoded req) tuples)) (decoded req) (keys_of all)
            (All-map (λ t. Contains (map (decoded req) tuples) (decoded req t)) (λ e. e.0) all
            (All-from_Contains (λ e. Contains (map (decoded req) tuples) (decoded req e.0)) all
            (λ e m. Contains-map (decoded req) tuples e.0 (group-tuple tuples e m)))));
        complete = All-map (Contains (keys_of (decoded_groups req all))) (decoded req) tuples
            (All-from_Contains (λ t. Contains (keys_of (decoded_groups req all)) (decoded req t))
            tuples
            (λ t m. subst (λ ts. Contains ts (decoded req t)) (sym (keys-decoded all))
            (Contains-map (decoded req) (keys_of all) t (tuple-group tuples t m))));
      }

-- the groups of tuples are, decoded, those of the tuples that these stand for
pub groups-typed : (segment : Stored) (after : Named AfterKey) (req : CompositeAggReqData)
    → Fits segment after req → (tuples : List EncodedTuple) (visited : List KeyTuple)
    → AllZip (StandsForTuple req) tuples visited
    → Groups (rules_of req.req.now.sources) visited
    (decoded_groups req (groups_of encoded_tuple_order tuples))
groups-typed segment after req fits tuples visited stand =
    subst (λ vs. Groups (rules_of req.req.now.sources) vs
    (decoded_groups req (groups_of encoded_tuple_order tuples)))
    (decoded-all req tuples visited stand)
    (groups-decoded segment after req fits tuples (each-stands req tuples visited stand))
