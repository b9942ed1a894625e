-- What lists contain.
use Rattle.std.proofs.Common.{◌≡◌, ◌+◌, ◌<◌, ◌≤◌, ℕ, zero, suc, List, [], ◌∷◌, length}
use Rattle.std.proofs.Common.{get_or, map, cond, true, false, refl, sym, ap, subst, ◌∙◌, inl, inr}
use Rattle.std.proofs.Common.{arith}
use Rattle.std.specs.Prelude.{Bool, ◌⊎◌, filter, flat_map}
use Rattle.std.specs.List.{Contains, range_with_len}
use Rattle.std.proofs.lemmas.List.Elements.{Contains-append_left, Contains-append_right}
use Rattle.std.proofs.lemmas.List.Elements.{Contains-append_cases}
use Rattle.std.proofs.lemmas.Bool.{cases_eq}

pub first_of : {X : Type 0} (x : X) (xs : List X) → Contains (x ∷ xs) x
first_of x xs = (0, omega arith, refl)

pub next_of : {X : Type 0} (x y : X) (xs : List X) → Contains xs y → Contains (x ∷ xs) y
next_of x y xs (k, l, is) = (suc k, omega (arith, l), is)

pub cons_cases : {X : Type 0} (x y : X) (xs : List X) → Contains (x ∷ xs) y
    → (x ≡ y) ⊎ Contains xs y
cons_cases x y xs (k, l, is) = by_place k l is
  where
    by_place : (k : ℕ) → k < suc (length xs) → get_or (x ∷ xs) k y ≡ y → (x ≡ y) ⊎ Contains xs y
    by_place zero l is = inl is
    by_place (suc k) l is = inr (k, omega (arith, l), is)

pub none_of : {X : Type 0} (y : X) → Contains [] y → ⊥
none_of y (k, l, is) = omega (arith, l)

pub contains_map : {X Y : Type 0} (f : X → Y) (xs : List X) (x : X) → Contains xs x
    → Contains (map f xs) (f x)
contains_map f [] x has = absurd (none_of x has)
contains_map f (y ∷ xs) x has = elim (cons_cases y x xs has) [
  | inl same ↦ subst (λ z. Contains (f y ∷ map f xs) z) (ap f same) (first_of (f y) (map f xs))
  | inr later ↦ next_of (f y) (f x) (map f xs) (contains_map f xs x later)
]

pub from_map : {X Y : Type 0} (f : X → Y) (xs : List X) (y : Y) → Contains (map f xs) y
    → (x : X) × Contains xs x × (f x ≡ y)
from_map f [] y has = absurd (none_of y has)
from_map f (x ∷ xs) y has = elim (cons_cases (f x) y (map f xs) has) [
  | inl same ↦ (x, first_of x xs, same)
  | inr later ↦ let (z, in', is) = from_map f xs y later in (z, next_of x z xs in', is)
]

pub contains_flat : {X Y : Type 0} (f : X → List Y) (xs : List X) (x : X) (y : Y) → Contains xs x
    → Contains (f x) y → Contains (flat_map f xs) y
contains_flat f [] x y has in' = absurd (none_of x has)
contains_flat f (z ∷ xs) x y has in' = elim (cons_cases z x xs has) [
  | inl same ↦ Contains-append_left (f z) (flat_map f xs) y (subst (λ w. Contains (f w) y)
      (sym same) in')
  | inr later ↦ Contains-append_right (f z) (flat_map f xs) y (contains_flat f xs x y later in')
]

pub from_flat : {X Y : Type 0} (f : X → List Y) (xs : List X) (y : Y) → Contains (flat_map f xs) y
    → (x : X) × Contains xs x × Contains (f x) y
from_flat f [] y has = absurd (none_of y has)
from_flat f (x ∷ xs) y has = elim (Contains-append_cases (f x) (flat_map f xs) y has) [
  | inl here ↦ (x, first_of x xs, here)
  | inr later ↦ let (z, in', has') = from_flat f xs y later in (z, next_of x z xs in', has')
]

pub contains_filter : {X : Type 0} (p : X → Bool) (xs : List X) (x : X) → Contains xs x → p x ≡ true
    → Contains (filter p xs) x
contains_filter p [] x has yes' = absurd (none_of x has)
contains_filter p (y ∷ xs) x has yes' = elim (cons_cases y x xs has) [
  | inl same ↦ let here : p y ≡ true = ap p same ∙ yes' in
      rw here (subst (λ z. Contains (y ∷ filter p xs) z) same (first_of y (filter p xs)))
  | inr later ↦ by_test (p y) (contains_filter p xs x later yes')
]
  where
    by_test : (b : Bool) → Contains (filter p xs) x
        → Contains (cond b (y ∷ filter p xs) (filter p xs)) x
    by_test true has = next_of y x (filter p xs) has
    by_test false has = has

pub from_filter : {X : Type 0} (p : X → Bool) (xs : List X) (x : X) → Contains (filter p xs) x
    → Contains xs x × (p x ≡ true)
from_filter p [] x has = absurd (none_of x has)
from_filter p (y ∷ xs) x has = by_test (p y) refl (λ later. let (in', is) =
    from_filter p xs x later in (next_of y x xs in', is)) has
  where
    by_test : (b : Bool) → p y ≡ b → (Contains (filter p xs) x → Contains (y ∷ xs) x × (p x ≡ true))
        → Contains (cond b (y ∷ filter p xs) (filter p xs)) x → Contains (y ∷ xs) x × (p x ≡ true)
    by_test true here later has = elim (cons_cases y x (filter p xs) has) [
      | inl same ↦ (subst (λ z. Contains (y ∷ xs) z) same (first_of y xs), ap p (sym same) ∙ here)
      | inr more ↦ later more
    ]
    by_test false here later has = later has

pub in_range : (a n d : ℕ) → a ≤ d → d < a + n → Contains (range_with_len a n) d
in_range a zero d low high = absurd (omega (arith, low, high))
in_range a (suc n) d low high = elim (cases_eq a d) [
  | inl same ↦ subst (λ z. Contains (a ∷ range_with_len (a + 1) n) z) same
      (first_of a (range_with_len (a + 1) n))
  | inr other ↦ next_of a d (range_with_len (a + 1) n) (in_range (a + 1) n d
      (omega (arith, low, other)) (omega (arith, high)))
]
