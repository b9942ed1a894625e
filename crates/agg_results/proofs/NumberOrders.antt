-- The best and the sum of numbers don't hang on their order, nor do lengths.
use Rattle.std.proofs.Common.{◌≡◌, ℤ, ◌+ℤ◌, List, Option, None, Some, length, refl, ap}
use Rattle.std.proofs.Common.{◌∙◌, arith}
use Rattle.std.specs.Int.{int_max, int_min}
use Rattle.std.proofs.lemmas.Int.{clamps, ints}
use Rattle.agg_request_tree.proofs.Reorderings.{IsReordering, exchange, joined, later, same}
use Rattle.agg_request_tree.specs.Metrics.{best, best_of, sum_of}

-- which of two is taken first makes no difference
abbrev pub TakesInAnyOrder : (ℤ → ℤ → ℤ) → Type 0
TakesInAnyOrder better =
    ((x y : ℤ) → better x y ≡ better y x)
    × ((x y z : ℤ) → better x (better y z) ≡ better y (better x z))

pub max-any_order : TakesInAnyOrder int_max
max-any_order =
    (λ x y. omega (arith, ints, clamps), λ x y z. omega (arith, ints, clamps))

pub min-any_order : TakesInAnyOrder int_min
min-any_order =
    (λ x y. omega (arith, ints, clamps), λ x y z. omega (arith, ints, clamps))

module _ (better : ℤ → ℤ → ℤ) (any : TakesInAnyOrder better) where
  best-exchange : (x y : ℤ) (r : Option ℤ)
      → best better (Some x) (best better (Some y) r)
      ≡ best better (Some y) (best better (Some x) r)
  best-exchange x y None = ap Some (any.0 x y)
  best-exchange x y (Some z) = ap Some (any.1 x y z)

  -- the best of numbers in another order
  pub best_of-reordering : {ns ms : List ℤ} → IsReordering ns ms
      → best_of better ns ≡ best_of better ms
  best_of-reordering same = refl
  best_of-reordering (later {x = n} moved) = ap (best better (Some n)) (best_of-reordering moved)
  best_of-reordering (exchange {x = n} {y = m} {xs = ns}) =
      best-exchange n m (best_of better ns)
  best_of-reordering (joined first second) =
      best_of-reordering first ∙ best_of-reordering second

sum-exchange : (x y s : ℤ) → x +ℤ (y +ℤ s) ≡ y +ℤ (x +ℤ s)
sum-exchange x y s = omega (arith, ints)

-- the sum of numbers in another order
pub sum_of-reordering : {ns ms : List ℤ} → IsReordering ns ms → sum_of ns ≡ sum_of ms
sum_of-reordering same = refl
sum_of-reordering (later {x = n} moved) = ap (λ s. n +ℤ s) (sum_of-reordering moved)
sum_of-reordering (exchange {x = n} {y = m} {xs = ns}) = sum-exchange n m (sum_of ns)
sum_of-reordering (joined first second) = sum_of-reordering first ∙ sum_of-reordering second

-- a list in another order is as long
pub length-reordering : {X : Type 0} {xs ys : List X} → IsReordering xs ys → length xs ≡ length ys
length-reordering same = refl
length-reordering (later moved) = let h = length-reordering moved in omega arith
length-reordering exchange = omega arith
length-reordering (joined first second) = length-reordering first ∙ length-reordering second
