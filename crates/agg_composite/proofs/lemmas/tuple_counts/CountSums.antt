-- The sum of counts.
use Rattle.std.proofs.Common.{◌≡◌, ◌+◌, ◌≤◌, ℕ, List, [], ◌∷◌, ◌++◌, refl, sym, ap, ◌∙◌, arith}
use Rattle.std.proofs.Common.{Ordering, Less, Equal, Greater}
use Rattle.std.specs.List.{sum_by}
use Rattle.std.specs.Ordering.{match_ordering}
use Rattle.std.proofs.lemmas.List.Sums.{sum_by-append, sum_by-cons}
use Rattle.agg_composite.specs.buckets.Cut.{add_count}
use Rattle.agg_composite.specs.tuple_counts.Counted.{counted}

-- the sum of counts
abbrev pub total_of : {K : Type 0} → List (K × ℕ) → ℕ
total_of es = sum_by (λ e. e.1) es

module _ {K : Type 0} (R : K → K → Ordering) where
  added-by : (o : Ordering) (k : K) (n : ℕ) (e : K × ℕ) (es more : List (K × ℕ))
      → total_of more ≡ n + total_of es
      → total_of (match_ordering o ((k, n) ∷ e ∷ es) ((e.0, e.1 + n) ∷ es) (e ∷ more))
      ≡ n + total_of (e ∷ es)
  added-by Less k n e es more rest = sum_by-cons (λ (e : K × ℕ). e.1) (k, n) (e ∷ es)
  added-by Equal k n e es more rest =
      let here = sum_by-cons (λ (e : K × ℕ). e.1) (e.0, e.1 + n) es in
      let was = sum_by-cons (λ (e : K × ℕ). e.1) e es in
      omega (arith, here, was)
  added-by Greater k n e es more rest =
      let here = sum_by-cons (λ (e : K × ℕ). e.1) e more in
      let was = sum_by-cons (λ (e : K × ℕ). e.1) e es in
      omega (arith, here, was, rest)

  pub added : (es : List (K × ℕ)) (k : K) (n : ℕ) → total_of (add_count R es k n) ≡ n + total_of es
  added [] k n = sum_by-cons (λ (e : K × ℕ). e.1) (k, n) []
  added (e ∷ es) k n = added-by (R k e.0) k n e es (add_count R es k n) (added es k n)

  -- counts of distinct keys have the sum of all
  pub total-counted : (es : List (K × ℕ)) → total_of (counted R es) ≡ total_of es
  total-counted [] = refl
  total-counted (e ∷ es) =
      added (counted R es) e.0 e.1 ∙ ap (λ n. e.1 + n) (total-counted es)
      ∙ sym (sum_by-cons (λ (e : K × ℕ). e.1) e es)

  -- two counts that stand in lists with one result are no more than the sum of either
  pub two-within : (all es fs : List (K × ℕ)) (k l : K) (m n : ℕ)
      → counted R (es ++ (k, m) ∷ (l, n) ∷ fs) ≡ counted R all → m + n ≤ total_of all
  two-within all es fs k l m n same =
      let equal : total_of (es ++ (k, m) ∷ (l, n) ∷ fs) ≡ total_of all =
      sym (total-counted (es ++ (k, m) ∷ (l, n) ∷ fs)) ∙ ap total_of same ∙ total-counted all in
      let both = sum_by-append (λ (e : K × ℕ). e.1) es ((k, m) ∷ (l, n) ∷ fs) in
      let first = sum_by-cons (λ (e : K × ℕ). e.1) (k, m) ((l, n) ∷ fs) in
      let second = sum_by-cons (λ (e : K × ℕ). e.1) (l, n) fs in
      omega (arith, equal, both, first, second)
