-- Sums over lists, and over lists made of lists.
use Rattle.std.proofs.Common.{◌≡◌, ◌≤◌, ◌+◌, ◌*◌, ℕ, Bool, true, false, cond, List, [], ◌∷◌}
use Rattle.std.proofs.Common.{length, map, refl, sym, ap, ◌∙◌, arith}
use Rattle.std.specs.List.{filter, flat_map, sum_by}
use Rattle.std.proofs.lemmas.List.Sums.{sum_by-append, sum_by-cons}

-- ---- terms

-- equal terms
pub sum_by-same : {X : Type 0} (f g : X → ℕ) (xs : List X) → ((x : X) → f x ≡ g x)
    → sum_by f xs ≡ sum_by g xs
sum_by-same f g xs same = ap (λ h. sum_by h xs) (λ i x. same x i)

-- terms that are at most others
pub sum_by-at_most : {X : Type 0} (f g : X → ℕ) (xs : List X) → ((x : X) → f x ≤ g x)
    → sum_by f xs ≤ sum_by g xs
sum_by-at_most f g [] most = omega arith
sum_by-at_most f g (x ∷ xs) most =
    omega (arith, sum_by-cons f x xs, sum_by-cons g x xs, most x, sum_by-at_most f g xs most)

-- terms that are sums
pub sum_by-both : {X : Type 0} (f g : X → ℕ) (xs : List X)
    → sum_by (λ x. f x + g x) xs ≡ sum_by f xs + sum_by g xs
sum_by-both f g [] = refl
sum_by-both f g (x ∷ xs) = omega (
  arith,
  sum_by-cons (λ x. f x + g x) x xs,
  sum_by-cons f x xs,
  sum_by-cons g x xs,
  sum_by-both f g xs,
)

-- one term for each
pub sum_by-constant : {X : Type 0} (n : ℕ) (xs : List X) → sum_by (λ x. n) xs ≡ n * length xs
sum_by-constant n [] = grind arith
sum_by-constant n (x ∷ xs) = grind (arith, sum_by-cons (λ x. n) x xs, sum_by-constant n xs)

-- terms with a factor
pub sum_by-times : {X : Type 0} (f : X → ℕ) (n : ℕ) (xs : List X)
    → sum_by (λ x. f x * n) xs ≡ sum_by f xs * n
sum_by-times f n [] = grind arith
sum_by-times f n (x ∷ xs) =
    sum_by-cons (λ x. f x * n) x xs
    ∙ ap (λ m. f x * n + m) (sum_by-times f n xs)
    ∙ both_times (f x) (sum_by f xs) n
    ∙ ap (λ m. m * n) (sym (sum_by-cons f x xs))
  where
    both_times : (a b n : ℕ) → a * n + b * n ≡ (a + b) * n
    both_times a b n = grind arith

-- no terms
pub sum_by-none : {X : Type 0} (xs : List X) → sum_by (λ x. 0) xs ≡ 0
sum_by-none [] = refl
sum_by-none (x ∷ xs) = omega (arith, sum_by-cons (λ x. 0) x xs, sum_by-none xs)

-- ---- lists

-- sums of sums, in the other order
pub sum_by-swap : {X Y : Type 0} (f : X → Y → ℕ) (xs : List X) (ys : List Y)
    → sum_by (λ x. sum_by (f x) ys) xs ≡ sum_by (λ y. sum_by (λ x. f x y) xs) ys
sum_by-swap f [] ys = sym (sum_by-none ys)
sum_by-swap f (x ∷ xs) ys =
    sum_by-cons (λ x. sum_by (f x) ys) x xs
    ∙ ap (λ n. sum_by (f x) ys + n) (sum_by-swap f xs ys)
    ∙ sym (sum_by-both (f x) (λ y. sum_by (λ x. f x y) xs) ys)
    ∙ sum_by-same (λ y. f x y + sum_by (λ x. f x y) xs) (λ y. sum_by (λ z. f z y) (x ∷ xs)) ys
    (λ y. sym (sum_by-cons (λ z. f z y) x xs))

-- lists end to end
pub sum_by-flat_map : {X Y : Type 0} (f : Y → ℕ) (part : X → List Y) (xs : List X)
    → sum_by f (flat_map part xs) ≡ sum_by (λ x. sum_by f (part x)) xs
sum_by-flat_map f part [] = refl
sum_by-flat_map f part (x ∷ xs) =
    sum_by-append f (part x) (flat_map part xs)
    ∙ ap (λ n. sum_by f (part x) + n) (sum_by-flat_map f part xs)
    ∙ sym (sum_by-cons (λ x. sum_by f (part x)) x xs)

-- what a test passes
pub sum_by-filter : {X : Type 0} (f : X → ℕ) (passes : X → Bool) (xs : List X)
    → sum_by f (filter passes xs) ≡ sum_by (λ x. cond (passes x) (f x) 0) xs
sum_by-filter f passes [] = refl
sum_by-filter f passes (x ∷ xs) =
    by_test (passes x) ∙ ap (λ n. cond (passes x) (f x) 0 + n) (sum_by-filter f passes xs)
    ∙ sym (sum_by-cons (λ x. cond (passes x) (f x) 0) x xs)
  where
    by_test : (t : Bool)
        → sum_by f (cond t (x ∷ filter passes xs) (filter passes xs))
        ≡ cond t (f x) 0 + sum_by f (filter passes xs)
    by_test true = sum_by-cons f x (filter passes xs)
    by_test false = omega arith

-- one element for each element of a list
pub sum_by-copies : {X Y : Type 0} (f : X → ℕ) (x : X) (ys : List Y)
    → sum_by f (map (λ y. x) ys) ≡ length ys * f x
sum_by-copies f x [] = grind arith
sum_by-copies f x (y ∷ ys) =
    grind (arith, sum_by-cons f x (map (λ y. x) ys), sum_by-copies f x ys)

-- elements made of others
pub sum_by-map : {X Y : Type 0} (f : Y → ℕ) (made : X → Y) (xs : List X)
    → sum_by f (map made xs) ≡ sum_by (λ x. f (made x)) xs
sum_by-map f made [] = refl
sum_by-map f made (x ∷ xs) =
    sum_by-cons f (made x) (map made xs)
    ∙ ap (λ n. f (made x) + n) (sum_by-map f made xs)
    ∙ sym (sum_by-cons (λ x. f (made x)) x xs)
