-- Places in ascending lists.
use Rattle.std.proofs.Common.{◌≡◌, ℕ, ◌+◌, ◌<◌, List, length, get_or, map, Ordering, Less, Equal}
use Rattle.std.proofs.Common.{Vec, Global}
use Rattle.std.proofs.Common.{Greater, true, refl, sym, ap, subst, ◌∙◌, inl, inr, arith, nat_eq}
use Rattle.std.specs.Ordering.{nat_cmp, ordering_reverse, ordering_index, is_lt, is_eq}
use Rattle.std.specs.Cmp.{IsTotalOrder}
use Rattle.std.specs.Cmp.Lexicographic.{slice_cmp, pointwise, texts_ties}
use mathlib.Core.Bool.{true≢false}
use Rattle.std.specs.List.{HoldsAt, Contains, All, dedup}
use Rattle.std.specs.List.Sorted.{IsStrictlySortedBy, IsSortedBy, IsNonDecreasingBy}
use Rattle.std.specs.List.Sorted.{IsPartitionPoint, IsPermutation}
use Rattle.std.proofs.lemmas.List.Kept.{Contains-dedup_nat}
use Rattle.std.proofs.lemmas.Bool.{cases_lt}
use Rattle.std.proofs.lemmas.Cmp.{nat_cmp_total, tied_itself, ranked, by_ranked}
use Rattle.std.proofs.lemmas.List.{get_or_default, get_or-map, length-map}
use Rattle.std.proofs.lemmas.List.Sorted.{searchable_from_sorted, Contains-permutation}
use Rattle.std.proofs.lemmas.Map.Keys.{Less-from_sorted}
use Rattle.std.proofs.lemmas.Map.Lookups.{exact_bytes, exact_unsigned}
use Rattle.agg_values.specs.declared.address.Address.{Address}
use Rattle.agg_segment.specs.storage.Dictionary.{address_cmp, AreInPlaceOrder, IsHit, IsBelowUpTo}
use Rattle.agg_segment.specs.declared.storage.hit.OrdHit.{OrdHit}
use Rattle.agg_segment.specs.declared.storage.hit.OrdHit.TheVariants.{Exact, Next, AfterLast}

-- a slice of what a box holds
pub boxed_slice : {X : Type 0} {boxed given : Vec X Global} {slice : List X}
    → slice ≡ given.items → given ≡ boxed → slice ≡ boxed.items
boxed_slice {X} there here = there ∙ ap (λ (v : Vec X Global). v.items) here

apart_less : (o : Ordering) → o ≡ Less → o ≡ Equal → ⊥
apart_less o a b = omega (arith, ap ordering_index (sym a ∙ b))

apart_greater : (o : Ordering) → o ≡ Greater → o ≡ Equal → ⊥
apart_greater o a b = omega (arith, ap ordering_index (sym a ∙ b))

pub same_texts : (x y : List ℕ) → pointwise nat_eq x y ≡ true → x ≡ y
same_texts x y h = exact_bytes x y (only_equal (slice_cmp nat_cmp x y) (sym (texts_ties x y) ∙ h))
  where
    only_equal : (o : Ordering) → is_eq o ≡ true → o ≡ Equal
    only_equal Less h = absurd (true≢false (sym h))
    only_equal Equal h = refl
    only_equal Greater h = absurd (true≢false (sym h))

pub keeps_numbers : (values moved : List ℕ) → IsPermutation values moved
    → All (Contains (dedup nat_eq moved)) values
keeps_numbers values moved permuted k d l =
    Contains-dedup_nat moved (get_or values k d) (Contains-permutation values moved
    (get_or values k d) permuted (k, l, get_or_default values k (get_or values k d) d l))

module _ {X : Type 0} (cmp : X → X → Ordering) (total : IsTotalOrder cmp) (exact : (x y : X)
    → cmp x y ≡ Equal → x ≡ y) (items : List X) (sorted : IsStrictlySortedBy cmp items) where
  -- places are in the order of their items
  pub places_ascend : (p q : ℕ) (d : X) → p < length items → q < length items
      → cmp (get_or items p d) (get_or items q d) ≡ nat_cmp p q
  places_ascend p q d in_p in_q = by_ranked (p < q) (p ≡ q) (q < p) (nat_cmp p q)
      (ranked p q (nat_cmp p q) refl)
      (λ e l. Less-from_sorted cmp items p q d sorted l in_q ∙ sym e)
      (λ e l. ap (λ i. cmp (get_or items p d) (get_or items i d)) (sym l)
      ∙ tied_itself total (get_or items p d) ∙ sym e)
      (λ e l. total.antisymm (get_or items p d) (get_or items q d) ∙ ap ordering_reverse
      (Less-from_sorted cmp items q p d sorted l in_p) ∙ sym e)

  strictly : IsSortedBy (λ a b. is_lt (cmp a b)) items
  strictly j d low high = ap is_lt (total.antisymm (get_or items (j + 1) d) (get_or items j d)
      ∙ ap ordering_reverse (Less-from_sorted cmp items j (j + 1) d sorted (omega arith) high))

  module _ (x : X) (at : ℕ) where
    pub found : HoldsAt (λ y. cmp y x ≡ Equal) items at → HoldsAt (λ y. y ≡ x) items at
    found is d = exact (get_or items at d) x (is d)

    pub hit_exact : at < length items → HoldsAt (λ y. cmp y x ≡ Equal) items at
        → IsHit cmp items x (Exact at)
    hit_exact l is = (
      l,
      (λ i below d. subst (λ y. cmp (get_or items i d) y ≡ Less) (found is d)
          (Less-from_sorted cmp items i at d sorted below l)),
      found is,
    )

    module _ (parted : IsNonDecreasingBy (λ y. ordering_index (cmp y x)) items
        → IsPartitionPoint (λ y. cmp y x ≡ Less) (λ y. cmp y x ≡ Greater) items at) where
      point : IsPartitionPoint (λ y. cmp y x ≡ Less) (λ y. cmp y x ≡ Greater) items at
      point = parted (searchable_from_sorted total (λ y. y) items x strictly)

      pub hit_next : at < length items → IsHit cmp items x (Next at)
      hit_next l = (
        l,
        (λ i below d. point.0 i d (omega arith) below),
        λ d.
            point.1 at d (omega arith) l,
      )

      pub hit_past : at ≡ length items → IsHit cmp items x AfterLast
      hit_past past i l d = point.0 i d (omega arith) (omega (arith, past, l))

      pub not_missing : Contains items x → ⊥
      not_missing (k, l, is) =
          let same : cmp (get_or items k x) x ≡ Equal = rw is (tied_itself total x) in
          elim (cases_lt k at) [
            | inl below ↦ apart_less (cmp (get_or items k x) x) (point.0 k x (omega arith) below)
                same
            | inr above ↦ apart_greater (cmp (get_or items k x) x) (point.1 k x above l) same
          ]

-- ---- addresses by their numbers

abbrev pub addresses : List ℕ → List Address
addresses ns = map (λ n. record { 0 = n }) ns

pub address_read : (ns : List ℕ) (i : ℕ) (d : Address) → i < length ns
    → get_or (addresses ns) i d ≡ record { 0 = get_or ns i d.0 }
address_read ns i d l = get_or-map (λ n. record { 0 = n }) ns i d.0 d l

pub addresses_below : (ns : List ℕ) (a : Address) (place : ℕ) → IsBelowUpTo nat_cmp ns a.0 place
    → place < length ns + 1 → IsBelowUpTo address_cmp (addresses ns) a place
addresses_below ns a place below within i l d = let in' : i < length ns = omega arith in
    rw (address_read ns i d in') (below i l d.0)

pub address_hit : (ns : List ℕ) (a : Address) (hit : OrdHit) → IsHit nat_cmp ns a.0 hit
    → IsHit address_cmp (addresses ns) a hit
address_hit ns a (Exact at) h =
    let len = length-map ns (λ (n : ℕ). let x : Address = record { 0 = n } in x) in (
      omega (arith, h.0, len),
      addresses_below ns a at h.1 (omega (arith, h.0)),
      λ d.
          address_read ns at d h.0 ∙ ap (λ n. record { 0 = n }) (h.2 d.0),
    )
address_hit ns a (Next at) h =
    let len = length-map ns (λ (n : ℕ). let x : Address = record { 0 = n } in x) in (
      omega (arith, h.0, len),
      addresses_below ns a at h.1 (omega (arith, h.0)),
      λ d.
          rw (address_read ns at d h.0) (h.2 d.0),
    )
address_hit ns a AfterLast h =
    let len = length-map ns (λ (n : ℕ). let x : Address = record { 0 = n } in x) in
    rw len (addresses_below ns a (length ns) h (omega arith))

pub address_listed : (ns : List ℕ) (n : ℕ) → Contains ns n
    → Contains (addresses ns) (record { 0 = n })
address_listed ns n (k, l, is) =
    let len = length-map ns (λ (n : ℕ). let x : Address = record { 0 = n } in x) in (
      k,
      omega (arith, l, len),
      address_read ns k (record { 0 = n }) l ∙ ap (λ m. record { 0 = m })
          is,
    )

pub number_listed : (ns : List ℕ) (a : Address) → Contains (addresses ns) a → Contains ns a.0
number_listed ns a (k, l, is) =
    let len = length-map ns (λ (n : ℕ). let x : Address = record { 0 = n } in x) in
    let in' : k < length ns = omega (arith, l, len) in
    (k, in', ap (λ (b : Address). b.0) (sym (address_read ns k a in') ∙ is))

-- addresses by number are in the order of their places
pub addresses_ascend : (ns : List ℕ) → IsStrictlySortedBy nat_cmp ns
    → AreInPlaceOrder address_cmp (addresses ns) (record { 0 = 0 })
addresses_ascend ns sorted left right in_left in_right =
    let len = length-map ns (λ (n : ℕ). let x : Address = record { 0 = n } in x) in
    let l : left < length ns = omega (arith, len, in_left) in
    let r : right < length ns = omega (arith, len, in_right) in
    rw (address_read ns left (record { 0 = 0 }) l, address_read ns right (record { 0 = 0 }) r)
    (places_ascend nat_cmp nat_cmp_total exact_unsigned ns sorted left right 0 l r)
