-- Lists in another order: a permutation is a reordering, and what a filter keeps of it.
use Rattle.std.proofs.Common.{ℕ, zero, suc, ◌<◌, Bool, true, false, cond, List, [], ◌∷◌, length}
use Rattle.std.proofs.Common.{get_or, arith}
use Rattle.std.proofs.Math.ListN.{set}
use Rattle.std.specs.List.{filter, swap}
use Rattle.std.specs.List.Sorted.{IsPermutation}
use Rattle.std.proofs.lemmas.List.Sorted.{IsPermutation-keeps}
use Rattle.agg_request_tree.proofs.Reorderings.{IsReordering, exchange, joined, later, same}

module _ {X : Type 0} where
  -- the first element goes to a place, and what stands there goes to the front
  to_place : (x : X) (ys : List X) (j : ℕ) (d : X) → j < length ys
      → IsReordering (x ∷ ys) (get_or ys j d ∷ set ys j x)
  to_place x [] j d within = absurd (omega arith)
  to_place x (y ∷ ys) zero d within = exchange
  to_place x (y ∷ ys) (suc j) d within =
      joined exchange (joined (later (to_place x ys j d (omega arith))) exchange)

  -- two places exchange what they hold
  two_places : (xs : List X) (i j : ℕ) (d : X) → i < length xs → j < length xs
      → IsReordering xs (set (set xs i (get_or xs j d)) j (get_or xs i d))
  two_places [] i j d first second = absurd (omega arith)
  two_places (x ∷ xs) zero zero d first second = same
  two_places (x ∷ xs) zero (suc j) d first second = to_place x xs j d (omega arith)
  two_places (x ∷ xs) (suc i) zero d first second = to_place x xs i d (omega arith)
  two_places (x ∷ xs) (suc i) (suc j) d first second =
      later (two_places xs i j d (omega arith) (omega arith))

  IsReordering-swap : (xs : List X) (i j : ℕ) → i < length xs → j < length xs
      → IsReordering xs (swap xs i j)
  IsReordering-swap [] i j first second = same
  IsReordering-swap (x ∷ xs) i j first second = two_places (x ∷ xs) i j x first second

  -- a permutation is a reordering
  pub IsReordering-from_permutation : (xs ys : List X) → IsPermutation xs ys → IsReordering xs ys
  IsReordering-from_permutation xs ys =
      IsPermutation-keeps xs (IsReordering xs) same
      (λ l i j first second moved. joined moved (IsReordering-swap l i j first second)) ys

  -- ---- filters

  kept_later : (b : Bool) (x : X) {xs ys : List X} → IsReordering xs ys
      → IsReordering (cond b (x ∷ xs) xs) (cond b (x ∷ ys) ys)
  kept_later true x moved = later moved
  kept_later false x moved = moved

  kept_exchange : (b c : Bool) (x y : X) (xs : List X)
      → IsReordering (cond b (x ∷ cond c (y ∷ xs) xs) (cond c (y ∷ xs) xs))
      (cond c (y ∷ cond b (x ∷ xs) xs) (cond b (x ∷ xs) xs))
  kept_exchange true true x y xs = exchange
  kept_exchange true false x y xs = same
  kept_exchange false true x y xs = same
  kept_exchange false false x y xs = same

  -- what a filter keeps of a list in another order
  pub IsReordering-filter : (p : X → Bool) {xs ys : List X} → IsReordering xs ys
      → IsReordering (filter p xs) (filter p ys)
  IsReordering-filter p same = same
  IsReordering-filter p (later {x = x} moved) = kept_later (p x) x (IsReordering-filter p moved)
  IsReordering-filter p (exchange {x = x} {y = y} {xs = xs}) =
      kept_exchange (p x) (p y) x y (filter p xs)
  IsReordering-filter p (joined first second) =
      joined (IsReordering-filter p first) (IsReordering-filter p second)
