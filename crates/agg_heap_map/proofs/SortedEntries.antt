-- Entries that are sorted by their keys.
use Rattle.std.proofs.Common.{◌≡◌, ℕ, suc, ◌<◌, false, List, [], ◌∷◌, length, get_or}
use Rattle.std.proofs.Common.{add-one, refl, sym, ap, ◌∙◌, subst, arith, Ordering, Less, Equal}
use Rattle.std.proofs.Common.{Greater, is_lt}
use Rattle.std.specs.BTreeMap.{insert_entry}
use Rattle.std.specs.Cmp.{IsTotalOrder}
use Rattle.std.specs.List.{AllByRecursion}
use Rattle.std.specs.List.Sorted.{IsPermutation, IsSortedBy}
use Rattle.std.specs.Map.{keys_of}
use Rattle.std.specs.Ordering.{eq_by_cmp, is_eq, ordering_reverse}
use Rattle.std.proofs.lemmas.Map.Keys.{IsDistinct-head, IsDistinct-tail}
use Rattle.agg_heap_map.specs.EntryOrder.{ascending}
use Rattle.agg_heap_map.proofs.AscendingKeys.{Ascends}
use Rattle.agg_heap_map.proofs.EachItem.{weaker}
use Rattle.agg_heap_map.proofs.EntryOrder.{EachOnce, EachOnce-permutation, ascending-same}

less-by : (o : Ordering) → is_lt (ordering_reverse o) ≡ false → is_eq o ≡ false → o ≡ Less
less-by Less not_above apart = refl
less-by Equal not_above apart = cc
less-by Greater not_above apart = cc

module _ {K X : Type 0} (R : K → K → Ordering) (total : IsTotalOrder R) where
  -- no entry is below the one before it
  abbrev NoneBelow : List (K × X) → Type 0
  NoneBelow es =
      (k : ℕ) (d : K × X) → suc k < length es
      → is_lt (R (get_or es (suc k) d).0 (get_or es k d).0) ≡ false

  sorted-ascends : (es : List (K × X)) → NoneBelow es → EachOnce R es → Ascends R total es
  sorted-ascends [] none once = tt
  sorted-ascends (e ∷ []) none once = (tt, tt)
  sorted-ascends (e ∷ f ∷ es) none once =
      let later = IsDistinct-tail (eq_by_cmp R) e.0 (keys_of (f ∷ es)) once in
      let rest : Ascends R total (f ∷ es) =
      sorted-ascends (f ∷ es) (λ k d h. none (suc k) d (omega arith)) later in
      let apart : is_eq (R e.0 f.0) ≡ false =
      (IsDistinct-head (eq_by_cmp R) e.0 (keys_of (f ∷ es)) once).0 in
      let not_above : is_lt (ordering_reverse (R e.0 f.0)) ≡ false =
      ap is_lt (sym (total.antisymm f.0 e.0)) ∙ none 0 e (omega arith) in
      let less : R e.0 f.0 ≡ Less = less-by (R e.0 f.0) not_above apart in (
        (
          less,
          weaker (λ g. R f.0 g.0 ≡ Less) (λ g. R e.0 g.0 ≡ Less)
              (λ g above. total.trans e.0 f.0 g.0 less above) es rest.0,
        ),
        rest,
      )

  insert-first : (e : K × X) (es : List (K × X)) → AllByRecursion (λ f. R e.0 f.0 ≡ Less) es
      → insert_entry R es e.0 e.1 ≡ e ∷ es
  insert-first e [] below = refl
  insert-first e (f ∷ es) below = rw (below.0) refl

  -- entries that ascend are in order
  ascending-itself : (es : List (K × X)) → Ascends R total es → ascending R es ≡ es
  ascending-itself [] up = refl
  ascending-itself (e ∷ es) up =
      ap (λ fs. insert_entry R fs e.0 e.1) (ascending-itself es up.1) ∙ insert-first e es up.0

  none_below : (es : List (K × X)) → IsSortedBy (λ a b. is_lt (R a.0 b.0)) es → NoneBelow es
  none_below es sorted k d h =
      subst (λ n. is_lt (R (get_or es n d).0 (get_or es k d).0) ≡ false) (add-one k)
      (sorted k d (omega (arith, h)) (omega (arith, h)))

  -- entries in another order, sorted by their keys, are those in order
  pub sorted-ascending : (es fs : List (K × X)) → EachOnce R es → IsPermutation es fs
      → IsSortedBy (λ a b. is_lt (R a.0 b.0)) fs → fs ≡ ascending R es
  sorted-ascending es fs once m sorted =
      let once_there = EachOnce-permutation R total es fs m once in
      let up = sorted-ascends fs (none_below fs sorted) once_there in
      sym (ascending-same R total es fs m once ∙ ascending-itself fs up)
