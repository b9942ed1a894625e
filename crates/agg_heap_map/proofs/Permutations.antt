-- What holds along permutations.
use Rattle.std.proofs.Common.{ℕ, zero, suc, ◌<◌, List, [], ◌∷◌, length, get_or, set, arith}
use Rattle.std.specs.List.{swap}
use Rattle.std.specs.List.Sorted.{IsPermutation}
use Rattle.std.proofs.lemmas.List.Sorted.{IsPermutation-keeps, IsPermutation-middle}

-- a relation that holds of a list and itself, under a head, over an exchange of the first two, and
-- in chains holds of a list and its permutations
module _ {X : Type 0} (Q : List X → List X → Type 0) (same : (xs : List X) → Q xs xs)
    (under : (x : X) (xs ys : List X) → Q xs ys → Q (x ∷ xs) (x ∷ ys))
    (turn : (x y : X) (xs : List X) → Q (x ∷ y ∷ xs) (y ∷ x ∷ xs))
    (chain : (xs ys zs : List X) → Q xs ys → Q ys zs → Q xs zs) where
  with_head : (xs : List X) (j : ℕ) (x d : X) → j < length xs
      → Q (x ∷ xs) (get_or xs j d ∷ set xs j x)
  with_head [] j x d h = absurd (omega arith)
  with_head (y ∷ xs) zero x d h = turn x y xs
  with_head (y ∷ xs) (suc j) x d h =
      chain _ _ _ (turn x y xs)
      (chain _ _ _ (under y _ _ (with_head xs j x d (omega arith)))
      (turn y (get_or xs j d) (set xs j x)))

  exchanged : (xs : List X) (i j : ℕ) (d : X) → i < length xs → j < length xs
      → Q xs (set (set xs i (get_or xs j d)) j (get_or xs i d))
  exchanged [] i j d p q = absurd (omega arith)
  exchanged (x ∷ xs) zero zero d p q = same (x ∷ xs)
  exchanged (x ∷ xs) zero (suc j) d p q = with_head xs j x d (omega arith)
  exchanged (x ∷ xs) (suc i) zero d p q = with_head xs i x d (omega arith)
  exchanged (x ∷ xs) (suc i) (suc j) d p q =
      under x _ _ (exchanged xs i j d (omega arith) (omega arith))

  swapped : (xs : List X) (i j : ℕ) → i < length xs → j < length xs → Q xs (swap xs i j)
  swapped [] i j p q = same []
  swapped (x ∷ xs) i j p q = exchanged (x ∷ xs) i j x p q

  pub along_permutation : (xs ys : List X) → IsPermutation xs ys → Q xs ys
  along_permutation xs =
      IsPermutation-keeps xs (Q xs) (same xs) (λ l i j p q h. chain xs l _ h (swapped l i j p q))

-- the first two exchanged
pub turned : {X : Type 0} (x y : X) (xs : List X) → IsPermutation (x ∷ y ∷ xs) (y ∷ x ∷ xs)
turned x y xs = IsPermutation-middle (x ∷ []) y xs
