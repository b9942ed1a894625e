-- Counts of what stands in front: where what passes stands before what doesn't.
use Rattle.std.proofs.Common.{◌≡◌, ◌<◌, ◌≤◌, ◌+◌, ℕ, zero, suc, List, [], ◌∷◌, length, get_or, Bool}
use Rattle.std.proofs.Common.{true, false, cond, refl, sym, ◌∙◌, arith}
use mathlib.Core.Bool.{true≢false}
use Rattle.std.proofs.lemmas.List.Sums.{sum_by-cons}
use Rattle.std.specs.Prelude.{count_by}

count_none : {X : Type 0} (p : X → Bool) (xs : List X)
    → ((i : ℕ) (d : X) → i < length xs → p (get_or xs i d) ≡ false) → count_by p xs ≡ 0
count_none p [] none = refl
count_none p (x ∷ xs) none =
    sum_by-cons (λ y. cond (p y) 1 0) x xs
    ∙ (λ i. cond (none 0 x (omega arith) i) 1 0 + count_by p xs)
    ∙ add_nothing (count_by p xs) (count_none p xs (λ i d l. none (suc i) d (omega (arith, l))))
  where
    add_nothing : (n : ℕ) → n ≡ 0 → 0 + n ≡ 0
    add_nothing n is = omega (arith, is)

no_more : {X : Type 0} (p : X → Bool) (x : X) (xs : List X)
    → ((i j : ℕ) (d : X) → i < j → j < length (x ∷ xs) → p (get_or (x ∷ xs) j d) ≡ true
    → p (get_or (x ∷ xs) i d) ≡ true)
    → p x ≡ false → (i : ℕ) (d : X) → i < length (x ∷ xs) → p (get_or (x ∷ xs) i d) ≡ false
no_more p x xs front is zero d l = is
no_more p x xs front is (suc i) d l = by_test (p (get_or xs i d)) refl
  where
    by_test : (b : Bool) → p (get_or xs i d) ≡ b → b ≡ false
    by_test true passes =
        absurd (true≢false (sym (front 0 (suc i) d (omega arith) l passes) ∙ is))
    by_test false passes = refl

by_head : {X : Type 0} (p : X → Bool) (x : X) (xs : List X)
    → ((i j : ℕ) (d : X) → i < j → j < length (x ∷ xs) → p (get_or (x ∷ xs) j d) ≡ true
    → p (get_or (x ∷ xs) i d) ≡ true)
    → (i : ℕ) (d : X) → i < length (x ∷ xs) → (b : Bool) → p x ≡ b
    → ((j : ℕ) → j < length xs → (j < count_by p xs → p (get_or xs j d) ≡ true)
    × (count_by p xs ≤ j → p (get_or xs j d) ≡ false))
    → (i < count_by p (x ∷ xs) → p (get_or (x ∷ xs) i d) ≡ true)
    × (count_by p (x ∷ xs) ≤ i → p (get_or (x ∷ xs) i d) ≡ false)
by_head p x xs front i d l false is rest =
    let none : count_by p (x ∷ xs) ≡ 0 = count_none p (x ∷ xs) (no_more p x xs front is) in (
      λ below. absurd (omega (arith, below, none)),
      λ above. no_more p x xs front is i d l,
    )
by_head p x xs front zero d l true is rest =
    let more : count_by p (x ∷ xs) ≡ 1 + count_by p xs =
    sum_by-cons (λ x. cond (p x) 1 0) x xs ∙ (λ i. cond (is i) 1 0 + count_by p xs) in (
      λ below. is,
      λ above. absurd (omega (arith, above, more)),
    )
by_head p x xs front (suc i) d l true is rest =
    let more : count_by p (x ∷ xs) ≡ 1 + count_by p xs =
    sum_by-cons (λ x. cond (p x) 1 0) x xs ∙ (λ i. cond (is i) 1 0 + count_by p xs) in
    let inner = rest i (omega (arith, l)) in (
      λ below. inner.0 (omega (arith, below, more)),
      λ above. inner.1 (omega (arith, above, more)),
    )

-- where what passes stands before what doesn't, the count is the index of the first that doesn't
pub count_front : {X : Type 0} (p : X → Bool) (xs : List X)
    → ((i j : ℕ) (d : X) → i < j → j < length xs → p (get_or xs j d) ≡ true
    → p (get_or xs i d) ≡ true)
    → (i : ℕ) (d : X) → i < length xs
    → (i < count_by p xs → p (get_or xs i d) ≡ true)
    × (count_by p xs ≤ i → p (get_or xs i d) ≡ false)
count_front p [] front i d l = absurd (omega arith)
count_front p (x ∷ xs) front i d l =
    by_head p x xs front i d l (p x) refl
    (λ j m. count_front p xs (λ i j d k l. front (suc i) (suc j) d (omega (arith, k))
    (omega (arith, l))) j d m)
