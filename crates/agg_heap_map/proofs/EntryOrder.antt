-- Entries in the order of their keys are the same entries, whatever order they are given in.
use Rattle.std.proofs.Common.{◌≡◌, false, List, [], ◌∷◌, ◌++◌, length, refl, ap, ◌∙◌}
use Rattle.std.proofs.Common.{Ordering, Less, Equal, Greater}
use Rattle.std.specs.BTreeMap.{insert_entry}
use Rattle.std.specs.Cmp.{IsTotalOrder}
use Rattle.std.specs.List.{AllByRecursion, IsDistinct}
use Rattle.std.specs.List.Sorted.{IsPermutation}
use Rattle.std.specs.Map.{keys_of}
use Rattle.std.specs.Ordering.{eq_by_cmp, is_eq, match_ordering}
use Rattle.std.proofs.lemmas.List.Sorted.{IsPermutation-refl, IsPermutation-cons}
use Rattle.std.proofs.lemmas.List.Sorted.{IsPermutation-trans, IsPermutation-map}
use Rattle.std.proofs.lemmas.List.Sorted.{length_permutation}
use Rattle.std.proofs.lemmas.Map.Keys.{IsDistinct-IsPermutation, IsDistinct-head, IsDistinct-tail}
use Rattle.agg_heap_map.specs.EntryOrder.{ascending}
use Rattle.agg_heap_map.proofs.EachItem.{moved, on_entries}
use Rattle.agg_heap_map.proofs.InsertionTurns.{Apart, flips, insert-turn}
use Rattle.agg_heap_map.proofs.Permutations.{along_permutation, turned}

-- no two keys are equal
abbrev pub EachOnce : {K X : Type 0} → (K → K → Ordering) → List (K × X) → Type 0
EachOnce R es = IsDistinct (eq_by_cmp R) (keys_of es)

module _ {K X : Type 0} (R : K → K → Ordering) (total : IsTotalOrder R) where
  pub EachOnce-permutation : (es fs : List (K × X)) → IsPermutation es fs → EachOnce R es
      → EachOnce R fs
  EachOnce-permutation es fs m once =
      IsDistinct-IsPermutation (eq_by_cmp R) (flips R total) (keys_of es) (keys_of fs)
      (IsPermutation-map (λ e. e.0) es fs m) once

  abbrev Alike : List (K × X) → List (K × X) → Type 0
  Alike es fs = IsPermutation es fs × (EachOnce R es → ascending R es ≡ ascending R fs)

  -- the order of the entries makes no difference
  pub ascending-same : (es fs : List (K × X)) → IsPermutation es fs → EachOnce R es
      → ascending R es ≡ ascending R fs
  ascending-same es fs m once =
      (along_permutation Alike
      (λ xs. (IsPermutation-refl xs, λ o. refl))
      (λ x xs ys alike. (
        IsPermutation-cons x xs ys alike.0,
        λ o.
            ap (λ zs. insert_entry R zs x.0 x.1)
            (alike.1 (IsDistinct-tail (eq_by_cmp R) x.0 (keys_of xs) o)),
      ))
      (λ x y xs. (
        turned x y xs,
        λ o.
            insert-turn R total (ascending R xs) x y
            (IsDistinct-head (eq_by_cmp R) x.0 (keys_of (y ∷ xs)) o).0,
      ))
      (λ xs ys zs a b.
      (IsPermutation-trans xs ys zs a.0 b.0, λ o. a.1 o ∙ b.1 (EachOnce-permutation xs ys a.0 o)))
      es fs m).1 once

  -- ---- the entries, ascending, are the entries

  insert-permutes-by : (o : Ordering) (k : K) (v : X) (e : K × X) (es more : List (K × X))
      → is_eq o ≡ false → IsPermutation ((k, v) ∷ es) more
      → IsPermutation ((k, v) ∷ e ∷ es)
      (match_ordering o ((k, v) ∷ e ∷ es) ((e.0, v) ∷ es) (e ∷ more))
  insert-permutes-by Less k v e es more apart rest = IsPermutation-refl ((k, v) ∷ e ∷ es)
  insert-permutes-by Equal k v e es more apart rest = cc
  insert-permutes-by Greater k v e es more apart rest =
      IsPermutation-trans ((k, v) ∷ e ∷ es) (e ∷ (k, v) ∷ es) (e ∷ more) (turned (k, v) e es)
      (IsPermutation-cons e ((k, v) ∷ es) more rest)

  insert-permutes : (es : List (K × X)) (k : K) (v : X) → AllByRecursion (λ e. Apart R k e.0) es
      → IsPermutation ((k, v) ∷ es) (insert_entry R es k v)
  insert-permutes [] k v apart = IsPermutation-refl ((k, v) ∷ [])
  insert-permutes (e ∷ es) k v apart =
      insert-permutes-by (R k e.0) k v e es (insert_entry R es k v) apart.0
      (insert-permutes es k v apart.1)

  pub ascending-permutes : (es : List (K × X)) → EachOnce R es → IsPermutation es (ascending R es)
  ascending-permutes [] once = IsPermutation-refl []
  ascending-permutes (e ∷ es) once =
      let rest = ascending-permutes es (IsDistinct-tail (eq_by_cmp R) e.0 (keys_of es) once) in
      let apart =
      moved (λ f. Apart R e.0 f.0) es (ascending R es) rest
      (on_entries (Apart R e.0) es (IsDistinct-head (eq_by_cmp R) e.0 (keys_of es) once)) in
      IsPermutation-trans (e ∷ es) (e ∷ ascending R es) (insert_entry R (ascending R es) e.0 e.1)
      (IsPermutation-cons e es (ascending R es) rest)
      (insert-permutes (ascending R es) e.0 e.1 apart)

  pub length-ascending : (es : List (K × X)) → EachOnce R es → length (ascending R es) ≡ length es
  length-ascending es once = length_permutation es (ascending R es) (ascending-permutes es once)

  -- ---- the greatest

  insert-last : (es : List (K × X)) (k : K) (v : X) → AllByRecursion (λ e. R k e.0 ≡ Greater) es
      → insert_entry R es k v ≡ es ++ (k, v) ∷ []
  insert-last [] k v above = refl
  insert-last (e ∷ es) k v above = rw (above.0) (ap (λ fs. e ∷ fs) (insert-last es k v above.1))

  -- entries of which one is above all others
  pub ascending-last : (es rest : List (K × X)) (e : K × X) → EachOnce R es
      → IsPermutation es (e ∷ rest) → AllByRecursion (λ f. R e.0 f.0 ≡ Greater) rest
      → ascending R es ≡ ascending R rest ++ e ∷ []
  ascending-last es rest e once m above =
      let o : EachOnce R rest =
      IsDistinct-tail (eq_by_cmp R) e.0 (keys_of rest) (EachOnce-permutation es (e ∷ rest) m once)
      in
      ascending-same es (e ∷ rest) m once
      ∙ insert-last (ascending R rest) e.0 e.1
      (moved (λ f. R e.0 f.0 ≡ Greater) rest (ascending R rest) (ascending-permutes rest o) above)
