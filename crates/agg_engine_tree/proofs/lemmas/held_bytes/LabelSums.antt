-- Weights of the documents of labels.
use Rattle.std.proofs.Common.{◌≡◌, ◌≤◌, ◌+◌, ℕ, zero, suc, List, [], ◌∷◌, Bool, true, false, ◌++◌}
use Rattle.std.proofs.Common.{if◌then◌else◌, refl, ap, ◌∙◌, arith, ⊎_elim}
use Rattle.std.specs.List.{AllByRecursion, list_any, sum_by}
use Rattle.std.proofs.lemmas.List.Sums.{sum_by-cons}
use Rattle.agg_cache.specs.Waiting.{docs_of, is_id}
use Rattle.agg_composite.specs.buckets.Visits.{docs_in, weight}
use Rattle.agg_request_tree.proofs.lemmas.charges.Sums.{sum_by-both, sum_by-same}
use Rattle.agg_request_tree.proofs.lemmas.charges.Tests.{by_answer, second}
use Rattle.agg_engine_tree.proofs.lemmas.collector_tree.LowerDocuments.{below, below-le}
use Rattle.agg_engine_tree.proofs.lemmas.held_bytes.NumberSums.{sum-last, up_to}

-- a weight that counts where a test passes
abbrev if_passes : Bool → ℕ → ℕ
if_passes passes n = if passes then n else 0

weight-first : {A : Type 0} (f : ℕ → ℕ) (own : A → Bool) (e : A × ℕ) (pairs : List (A × ℕ))
    → weight f (docs_of own (e ∷ pairs))
    ≡ if_passes (own e.0) (f e.1) + weight f (docs_of own pairs)
weight-first f own e pairs = by_test (own e.0)
  where
    by_test : (b : Bool) → weight f ((if b then e.1 ∷ [] else []) ++ docs_of own pairs)
        ≡ if_passes b (f e.1) + weight f (docs_of own pairs)
    by_test true = refl
    by_test false = omega arith

module _ {A X : Type 0} (f : ℕ → ℕ) (test : X → A → Bool) (xs : List X) where
  -- the weight of a document counts for each test that its label passes
  once-each : (e : A × ℕ) (pairs : List (A × ℕ))
      → sum_by (λ x. weight f (docs_of (test x) (e ∷ pairs))) xs
      ≡ sum_by (λ x. if_passes (test x e.0) (f e.1)) xs
      + sum_by (λ x. weight f (docs_of (test x) pairs)) xs
  once-each e pairs =
      sum_by-same (λ x. weight f (docs_of (test x) (e ∷ pairs)))
      (λ x. if_passes (test x e.0) (f e.1) + weight f (docs_of (test x) pairs)) xs
      (λ x. weight-first f (test x) e pairs)
      ∙ sum_by-both (λ x. if_passes (test x e.0) (f e.1))
      (λ x. weight f (docs_of (test x) pairs)) xs

  one-passes : (a : A) (n : ℕ) (ys : List X) → list_any (λ x. test x a) ys ≡ true
      → n ≤ sum_by (λ x. if_passes (test x a) n) ys
  one-passes a n [] has = absurd (cc)
  one-passes a n (y ∷ ys) has = ⊎_elim
      (λ is. omega (
        arith,
        sum_by-cons (λ x. if_passes (test x a) n) y ys,
        ap (λ b. if_passes b n) is,
      ))
      (λ other. omega (
        arith,
        sum_by-cons (λ x. if_passes (test x a) n) y ys,
        one-passes a n ys (second (test y a) (list_any (λ x. test x a) ys) has other),
      ))
      (by_answer (test y a))

  -- documents of which each has a label that passes some test weigh at most as much as those of all
  -- tests
  pub weight-covered : (own : A → Bool) (pairs : List (A × ℕ))
      → AllByRecursion (λ e. own e.0 ≡ true → list_any (λ x. test x e.0) xs ≡ true) pairs
      → weight f (docs_of own pairs) ≤ sum_by (λ x. weight f (docs_of (test x) pairs)) xs
  weight-covered own [] all = omega arith
  weight-covered own (e ∷ pairs) all = ⊎_elim
      (λ is. omega (
        arith,
        weight-first f own e pairs,
        once-each e pairs,
        ap (λ b. if_passes b (f e.1)) is,
        one-passes e.0 (f e.1) xs (all.0 is),
        weight-covered own pairs all.1,
      ))
      (λ other. omega (
        arith,
        weight-first f own e pairs,
        once-each e pairs,
        ap (λ b. if_passes b (f e.1)) other,
        weight-covered own pairs all.1,
      ))
      (by_answer (own e.0))

-- all documents
pub docs-all : {A : Type 0} (pairs : List (A × ℕ)) → docs_of (λ a. true) pairs ≡ docs_in pairs
docs-all [] = refl
docs-all (e ∷ pairs) = ap (λ ds. e.1 ∷ ds) (docs-all pairs)

-- weights of documents as a sum
pub weight-sum : (f : ℕ → ℕ) (docs : List ℕ) → weight f docs ≡ sum_by f docs
weight-sum f [] = refl
weight-sum f (d ∷ docs) = omega (arith, sum_by-cons f d docs, weight-sum f docs)

-- the documents of ids below one weigh at most as much as all
pub weight-labels : (f : ℕ → ℕ) (n : ℕ) (pairs : List (ℕ × ℕ))
    → sum_by (λ id. weight f (docs_of (is_id id) pairs)) (up_to n) ≤ weight f (docs_in pairs)
weight-labels f n pairs = omega (arith, same n, below-le f n pairs)
  where
    same : (n : ℕ) → sum_by (λ id. weight f (docs_of (is_id id) pairs)) (up_to n) ≡ below f n pairs
    same zero = refl
    same (suc n) = omega (arith, sum-last (λ id. weight f (docs_of (is_id id) pairs)) n, same n)
