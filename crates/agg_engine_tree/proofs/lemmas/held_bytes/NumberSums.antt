-- Sums over the numbers below one.
use Rattle.std.proofs.Common.{◌≡◌, ◌<◌, ◌≤◌, ◌+◌, ℕ, zero, suc, List, [], ◌∷◌, Bool, true, false}
use Rattle.std.proofs.Common.{cond, Some, None, filter, refl, sym, ap, ◌∙◌, subst, ◌||◌, ◌==◌}
use Rattle.std.proofs.Common.{arith}
use Rattle.std.proofs.Common.{⊎_elim}
use Rattle.std.specs.Prelude.{nat_eq, slice_get}
use Rattle.std.specs.List.{AllByRecursion, list_any, range_with_len, sum_by}
use Rattle.std.proofs.lemmas.Bool.{cases_eq, eq-eqb, eqb-true}
use Rattle.std.proofs.lemmas.Cmp.{nat_eq_equiv}
use Rattle.std.proofs.lemmas.List.Sums.{sum_by-cons}
use Rattle.agg_request_tree.proofs.lemmas.charges.Distinct.{Alike, Apart, sum_by-apart}
use Rattle.agg_request_tree.proofs.lemmas.charges.Sums.{sum_by-filter, sum_by-same}
use Rattle.agg_request_tree.proofs.lemmas.charges.Tests.{by_answer, neither, not_true}

-- the numbers below one
abbrev pub up_to : ℕ → List ℕ
up_to n = range_with_len 0 n

-- no number is the same as a later one of a list
abbrev pub Differ : List ℕ → Type 0
Differ = Apart nat_eq nat_eq_equiv

-- ---- terms

sum-moved : (f : ℕ → ℕ) (a n : ℕ)
    → sum_by f (range_with_len (a + 1) n) ≡ sum_by (λ p. f (suc p)) (range_with_len a n)
sum-moved f a zero = refl
sum-moved f a (suc n) =
    let same : a + 1 ≡ suc a = omega arith in
    omega (
      arith,
      sum_by-cons f (a + 1) (range_with_len (a + 1 + 1) n),
      sum_by-cons (λ p. f (suc p)) a (range_with_len (a + 1) n),
      ap f same,
      sum-moved f (a + 1) n,
    )

-- the first term and those after it
pub sum-first : (f : ℕ → ℕ) (n : ℕ)
    → sum_by f (up_to (suc n)) ≡ f 0 + sum_by (λ p. f (suc p)) (up_to n)
sum-first f n = omega (arith, sum_by-cons f 0 (range_with_len 1 n), sum-moved f 0 n)

sum-more : (f : ℕ → ℕ) (a n : ℕ)
    → sum_by f (range_with_len a (suc n)) ≡ sum_by f (range_with_len a n) + f (a + n)
sum-more f a zero =
    let same : a ≡ a + 0 = omega arith in
    omega (arith, sum_by-cons f a [], ap f same)
sum-more f a (suc n) =
    let same : a + 1 + n ≡ a + suc n = omega arith in
    omega (
      arith,
      sum_by-cons f a (range_with_len (a + 1) (suc n)),
      sum_by-cons f a (range_with_len (a + 1) n),
      sum-more f (a + 1) n,
      ap f same,
    )

-- the last term and those before it
pub sum-last : (f : ℕ → ℕ) (n : ℕ) → sum_by f (up_to (suc n)) ≡ sum_by f (up_to n) + f n
sum-last f n =
    let same : 0 + n ≡ n = omega arith in
    omega (arith, sum-more f 0 n, ap f same)

-- ---- the places of a list

-- a sum over a list is at most one over its places, with nothing past a number
pub places-most : {X : Type 0} (f : X → ℕ) (w : ℕ → ℕ) (xs : List X) (n : ℕ)
    → ((p : ℕ) (x : X) → slice_get xs p ≡ Some x → f x ≤ w p)
    → ((p : ℕ) → n ≤ p → w p ≡ 0) → sum_by f xs ≤ sum_by w (up_to n)
places-most f w [] n most none = omega arith
places-most f w (x ∷ xs) zero most none =
    omega (
      arith,
      sum_by-cons f x xs,
      most 0 x refl,
      none 0 (omega arith),
      places-most f (λ p. w (suc p)) xs 0 (λ p y at. most (suc p) y at)
          (λ p l. none (suc p) (omega arith)),
    )
places-most f w (x ∷ xs) (suc n) most none =
    omega (
      arith,
      sum_by-cons f x xs,
      sum-first w n,
      most 0 x refl,
      places-most f (λ p. w (suc p)) xs n (λ p y at. most (suc p) y at)
          (λ p l. none (suc p) (omega arith)),
    )

-- a sum over a list is at least one over some of its places, with nothing past it
pub places-least : {X : Type 0} (f : X → ℕ) (w : ℕ → ℕ) (xs : List X) (n : ℕ)
    → ((p : ℕ) (x : X) → slice_get xs p ≡ Some x → w p ≤ f x)
    → ((p : ℕ) → slice_get xs p ≡ None → w p ≡ 0) → sum_by w (up_to n) ≤ sum_by f xs
places-least f w xs zero least none = omega arith
places-least f w [] (suc n) least none =
    omega (
      arith,
      sum-first w n,
      none 0 refl,
      places-least f (λ p. w (suc p)) [] n (λ p y at. least (suc p) y at)
          (λ p at. none (suc p) at),
    )
places-least f w (x ∷ xs) (suc n) least none =
    omega (
      arith,
      sum_by-cons f x xs,
      sum-first w n,
      least 0 x refl,
      places-least f (λ p. w (suc p)) xs n (λ p y at. least (suc p) y at)
          (λ p at. none (suc p) at),
    )

-- ---- numbers of a list

alike : (f : ℕ → ℕ) → Alike nat_eq nat_eq_equiv f
alike f i j is = ap f (eqb-true i j is)

other-number : (i j : ℕ) → ¬ (i ≡ j) → nat_eq i j ≡ false
other-number i j other = not_true (nat_eq i j) (λ is. other (eqb-true i j is))

among : (k a n : ℕ) → a ≤ k → k < a + n → list_any (nat_eq k) (range_with_len a n) ≡ true
among k a zero low high = absurd (omega arith)
among k a (suc n) low high = ⊎_elim
    (λ is. ap (λ t. t || list_any (nat_eq k) (range_with_len (a + 1) n)) (eq-eqb k a is))
    (λ other.
    ap (λ t. t || list_any (nat_eq k) (range_with_len (a + 1) n)) (other-number k a other)
    ∙ among k (a + 1) n (omega arith) (omega arith))
    (cases_eq k a)

past : (k a n : ℕ) → k < a → list_any (nat_eq k) (range_with_len a n) ≡ false
past k a zero l = refl
past k a (suc n) l =
    ap (λ t. t || list_any (nat_eq k) (range_with_len (a + 1) n))
    (other-number k a (λ is. omega arith))
    ∙ past k (a + 1) n (omega arith)

pub numbers-differ : (a n : ℕ) → Differ (range_with_len a n)
numbers-differ a zero = tt
numbers-differ a (suc n) = (past a (a + 1) n (omega arith), numbers-differ (a + 1) n)

-- an element that is found
found-in : (P : ℕ → Type 0) (z : ℕ) (xs : List ℕ) → AllByRecursion P xs
    → list_any (nat_eq z) xs ≡ true → P z
found-in P z [] all has = absurd (cc)
found-in P z (x ∷ xs) all has = ⊎_elim
    (λ is. subst P (sym (eqb-true z x is)) all.0)
    (λ other. found-in P z xs all.1 (sym (ap (λ t. t || list_any (nat_eq z) xs) other) ∙ has))
    (by_answer (nat_eq z x))

-- a number below one is found, by tests that it is the same
pub among-below : (k n : ℕ) → k < n → list_any (λ p. p == k) (up_to n) ≡ true
among-below k n low =
    ap (λ test. list_any test (up_to n)) (λ i p. nat_eq_equiv.symm p k i)
    ∙ among k 0 n (omega arith) (omega (arith, low))

-- numbers below one, of which none is the same as another, have at most the sum of all below it
pub sum-below : (f : ℕ → ℕ) (xs : List ℕ) (n : ℕ) → Differ xs → AllByRecursion (λ i. i < n) xs
    → sum_by f xs ≤ sum_by f (up_to n)
sum-below f xs n differ low =
    sum_by-apart nat_eq nat_eq_equiv f (alike f) xs (up_to n) differ
    (λ z has.
    let here : z < n = found-in (λ i. i < n) z xs low has in
    among z 0 n (omega arith) (omega (arith, here)))

any-passing : (z : ℕ) (t : ℕ → Bool) (xs : List ℕ) → list_any (nat_eq z) xs ≡ false
    → list_any (nat_eq z) (filter t xs) ≡ false
any-passing z t [] none = refl
any-passing z t (x ∷ xs) none =
    let parts = neither (nat_eq z x) (list_any (nat_eq z) xs) none in
    by_test (t x) parts.0 (any-passing z t xs parts.1)
  where
    by_test : (b : Bool) → nat_eq z x ≡ false → list_any (nat_eq z) (filter t xs) ≡ false
        → list_any (nat_eq z) (cond b (x ∷ filter t xs) (filter t xs)) ≡ false
    by_test true here rest = (λ i. here i || rest i)
    by_test false here rest = rest

passing-differ : (t : ℕ → Bool) (xs : List ℕ) → Differ xs → Differ (filter t xs)
passing-differ t [] differ = tt
passing-differ t (x ∷ xs) differ =
    by_test (t x) (any-passing x t xs differ.0) (passing-differ t xs differ.1)
  where
    by_test : (b : Bool) → list_any (nat_eq x) (filter t xs) ≡ false → Differ (filter t xs)
        → Differ (cond b (x ∷ filter t xs) (filter t xs))
    by_test true here rest = (here, rest)
    by_test false here rest = rest

passing-pass : (t : ℕ → Bool) (xs : List ℕ) → AllByRecursion (λ x. t x ≡ true) (filter t xs)
passing-pass t [] = tt
passing-pass t (x ∷ xs) = by_test (t x) refl (passing-pass t xs)
  where
    by_test : (b : Bool) → t x ≡ b → AllByRecursion (λ y. t y ≡ true) (filter t xs)
        → AllByRecursion (λ y. t y ≡ true) (cond b (x ∷ filter t xs) (filter t xs))
    by_test true is rest = (is, rest)
    by_test false is rest = rest

-- a sum of terms that are 0 but at listed numbers is at most the sum over these
pub sum-listed : (f : ℕ → ℕ) (xs : List ℕ) (n : ℕ)
    → ((i : ℕ) → list_any (nat_eq i) xs ≡ false → f i ≡ 0) → sum_by f (up_to n) ≤ sum_by f xs
sum-listed f xs n none =
    let listed : ℕ → Bool = λ i. list_any (nat_eq i) xs in
    omega (
      arith,
      sum_by-same f (λ i. cond (listed i) (f i) 0) (up_to n) (λ i. each i (listed i) refl),
      sum_by-filter f listed (up_to n),
      sum_by-apart nat_eq nat_eq_equiv f (alike f) (filter listed (up_to n)) xs
          (passing-differ listed (up_to n) (numbers-differ 0 n))
          (λ z has. found-in (λ i. listed i ≡ true) z (filter listed (up_to n))
          (passing-pass listed (up_to n)) has),
    )
  where
    each : (i : ℕ) (b : Bool) → list_any (nat_eq i) xs ≡ b → f i ≡ cond b (f i) 0
    each i true is = refl
    each i false is = none i is
