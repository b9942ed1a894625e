-- A list of keys, counted one by one.
use Rattle.std.proofs.Common.{◌≡◌, ℕ, ◌+◌, ◌<◌, List, [], ◌∷◌, ◌++◌, take, refl, sym, ap, ◌∙◌}
use Rattle.std.proofs.Common.{arith, Ordering, Less, Equal, Greater}
use Rattle.std.specs.Cmp.{IsTotalOrder}
use Rattle.std.specs.List.{AllByRecursion}
use Rattle.std.specs.List.Sorted.{IsStrictlySortedBy}
use Rattle.std.specs.Map.{keys_of}
use Rattle.std.specs.Ordering.{match_ordering}
use Rattle.agg_results.proofs.Counts.{add_count, merged}
use Rattle.agg_results.proofs.Counts.{Ascend, Ascend-add, all-added}
use Rattle.agg_results.proofs.MergedCounts.{merge, merge-nothing, add-merge, merged-is_merge}
use Rattle.agg_results.proofs.MergedCounts.{take-merge}

module _ {K : Type 0} (R : K → K → Ordering) where
  -- counts, with each key of a list counted once more
  abbrev pub count_each : List (K × ℕ) → List K → List (K × ℕ)
  count_each es [] = es
  count_each es (k ∷ ks) = count_each (add_count R es k 1) ks

  -- the distinct keys of a list, ascending, each with the number of its places
  abbrev pub counted : List K → List (K × ℕ)
  counted ks = count_each [] ks

  -- counting two lists is counting them in a row
  count_each-append : (es : List (K × ℕ)) (ks ls : List K)
      → count_each es (ks ++ ls) ≡ count_each (count_each es ks) ls
  count_each-append es [] ls = refl
  count_each-append es (k ∷ ks) ls = count_each-append (add_count R es k 1) ks ls

  Positive-add-by : (o : Ordering) (k : K) (n : ℕ) (e : K × ℕ) (es more : List (K × ℕ)) → 0 < n
      → AllByRecursion (λ f. 0 < f.1) (e ∷ es) → AllByRecursion (λ f. 0 < f.1) more
      → AllByRecursion (λ f. 0 < f.1)
      (match_ordering o ((k, n) ∷ e ∷ es) ((e.0, e.1 + n) ∷ es) (e ∷ more))
  Positive-add-by Less k n e es more some all rest = (some, all)
  Positive-add-by Equal k n e es more some all rest = (let h = all.0 in omega arith, all.1)
  Positive-add-by Greater k n e es more some all rest = (all.0, rest)

  -- counts above 0 with more of a key are above 0
  Positive-add : (es : List (K × ℕ)) (k : K) (n : ℕ) → 0 < n
      → AllByRecursion (λ e. 0 < e.1) es → AllByRecursion (λ e. 0 < e.1) (add_count R es k n)
  Positive-add [] k n some all = (some, tt)
  Positive-add (e ∷ es) k n some all =
      Positive-add-by (R k e.0) k n e es (add_count R es k n) some all
      (Positive-add es k n some all.1)

  Positive-each : (es : List (K × ℕ)) (ks : List K) → AllByRecursion (λ e. 0 < e.1) es
      → AllByRecursion (λ e. 0 < e.1) (count_each es ks)
  Positive-each es [] all = all
  Positive-each es (k ∷ ks) all =
      Positive-each (add_count R es k 1) ks (Positive-add es k 1 (omega arith) all)

  -- each counted key has a place
  pub Positive-counted : (ks : List K) → AllByRecursion (λ e. 0 < e.1) (counted ks)
  Positive-counted ks = Positive-each [] ks tt

module _ {K : Type 0} (R : K → K → Ordering) (total : IsTotalOrder R) where
  Ascend-each : (es : List (K × ℕ)) (ks : List K) → Ascend R es → Ascend R (count_each R es ks)
  Ascend-each es [] up = up
  Ascend-each es (k ∷ ks) up =
      Ascend-each (add_count R es k 1) ks (Ascend-add R total es k 1 up)

  -- counted keys ascend
  pub Ascend-counted : (ks : List K) → Ascend R (counted R ks)
  unfolding IsStrictlySortedBy
  Ascend-counted ks = Ascend-each [] ks tt

  all-each : (P : K → Type 0) (es : List (K × ℕ)) (ks : List K) → AllByRecursion P (keys_of es)
      → AllByRecursion P ks → AllByRecursion P (keys_of (count_each R es ks))
  all-each P es [] all own = all
  all-each P es (k ∷ ks) all own =
      all-each P (add_count R es k 1) ks (all-added R total P es k 1 own.0 all) own.1

  -- what holds of each key of a list holds of each counted key
  pub all-counted : (P : K → Type 0) (ks : List K) → AllByRecursion P ks
      → AllByRecursion P (keys_of (counted R ks))
  all-counted P ks own = all-each P [] ks tt own

  -- ---- two lists

  count_each-merge : (es fs : List (K × ℕ)) (ks : List K)
      → count_each R (merge R es fs) ks ≡ merge R es (count_each R fs ks)
  count_each-merge es fs [] = refl
  count_each-merge es fs (k ∷ ks) =
      ap (λ gs. count_each R gs ks) (add-merge R total es fs k 1)
      ∙ count_each-merge es (add_count R fs k 1) ks

  -- the counts of two lists are merged from those of each
  counted-append : (ks ls : List K)
      → counted R (ks ++ ls) ≡ merge R (counted R ks) (counted R ls)
  counted-append ks ls =
      count_each-append R [] ks ls
      ∙ ap (λ gs. count_each R gs ls) (sym (merge-nothing R (counted R ks)))
      ∙ count_each-merge (counted R ks) [] ls

  -- the front of two merged is the lowest of both lists, where their fronts are the lowest of each
  pub lowest-merged : (size : ℕ) (ks ls : List K) (es fs : List (K × ℕ)) → Ascend R fs
      → take size es ≡ take size (counted R ks) → take size fs ≡ take size (counted R ls)
      → take size (merged R es fs) ≡ take size (counted R (ks ++ ls))
  lowest-merged size ks ls es fs up low_es low_fs =
      ap (take size) (merged-is_merge R total es fs up)
      ∙ take-merge R size size size es fs (omega arith) (omega arith)
      ∙ (λ i. take size (merge R (low_es i) (low_fs i)))
      ∙ sym (take-merge R size size size (counted R ks) (counted R ls) (omega arith) (omega arith))
      ∙ ap (take size) (sym (counted-append ks ls))
