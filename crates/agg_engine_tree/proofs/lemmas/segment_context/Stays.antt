-- What stands in lists that grow at their ends, and functions that give lists.
use Rattle.std.proofs.Common.{◌≡◌, ◌+◌, ◌<◌, ℕ, suc, List, [], ◌∷◌, ◌++◌, ◌⊎◌, inl, inr, Some}
use Rattle.std.proofs.Common.{ap, get_or, length, map, refl, sym, subst, arith, ◌∙◌}
use Rattle.std.proofs.Common.{length-append}
use Rattle.std.specs.List.{slice_get}
use Rattle.std.proofs.Math.ListN.{get_or-append}
use Rattle.std.proofs.Math.Seq.{get_or-append_seam}
use Rattle.std.proofs.lemmas.Option.{get_or_from_slice_get, slice_get-get_or, slice_get_within}
use Rattle.agg_engine_tree.specs.segment_context.Additions.{GivesFrom, StaysIn}

-- ---- what stands at an index

-- what stands in a list stands in it after others are appended
pub stays-append : {X : Type 0} (xs ys : List X) → StaysIn xs (xs ++ ys)
stays-append xs ys i x at =
    let within = slice_get_within xs i x at in
    slice_get-get_or (xs ++ ys) i x (omega (arith, length-append xs ys))
    ∙ ap (λ z. Some z) (get_or-append xs ys x i within ∙ get_or_from_slice_get xs i x x at)

-- what is appended stands after the others
pub at-end : {X : Type 0} (xs : List X) (x : X) → slice_get (xs ++ x ∷ []) (length xs) ≡ Some x
at-end xs x =
    slice_get-get_or (xs ++ x ∷ []) (length xs) x (omega (arith, length-append xs (x ∷ [])))
    ∙ ap (λ z. Some z) (get_or-append_seam xs x [] x)

-- what stands in a list that one was appended to stood in it before, or is that one
pub in-appended : {X : Type 0} (xs : List X) (y : X) (i : ℕ) (x : X)
    → slice_get (xs ++ y ∷ []) i ≡ Some x
    → (slice_get xs i ≡ Some x) ⊎ ((i ≡ length xs) × (y ≡ x))
in-appended xs y i x at = by_place (order i (length xs))
  where
    within : i < length xs + 1
    within = let h = slice_get_within (xs ++ y ∷ []) i x at in
        omega (arith, length-append xs (y ∷ []))

    order : (a b : ℕ) → (a < b) ⊎ ((a ≡ b) ⊎ (b < a))
    order a b = grind arith

    by_place : (i < length xs) ⊎ ((i ≡ length xs) ⊎ (length xs < i))
        → (slice_get xs i ≡ Some x) ⊎ ((i ≡ length xs) × (y ≡ x))
    by_place (inl before) =
        inl (slice_get-get_or xs i x before
        ∙ ap (λ z. Some z) (sym (get_or-append xs (y ∷ []) x i before)
        ∙ get_or_from_slice_get (xs ++ y ∷ []) i x x at))
    by_place (inr (inl there)) =
        let last : Some y ≡ Some x =
        sym (at-end xs y) ∙ ap (λ k. slice_get (xs ++ y ∷ []) k) (sym there) ∙ at in
        let same : y ≡ x = cc in
        inr (there, same)
    by_place (inr (inr past)) = absurd (omega (arith, within))

-- ---- what a function gives

-- a function that gives two lists, one after the other, gives each
pub gives-parts : {X : Type 0} (give : ℕ → X) (n : ℕ) (xs ys : List X)
    → GivesFrom give n (xs ++ ys)
    → GivesFrom give n xs × GivesFrom give (n + length xs) ys
gives-parts give n [] ys gives =
    (tt, let e : n ≡ n + 0 = omega arith in subst (λ k. GivesFrom give k ys) e gives)
gives-parts give n (x ∷ xs) ys gives =
    let later = gives-parts give (n + 1) xs ys gives.1 in
    let e : (n + 1) + length xs ≡ n + suc (length xs) = omega arith in
    ((gives.0, later.0), subst (λ k. GivesFrom give k ys) e later.1)

gives-later : {X : Type 0} (give : ℕ → X) (n : ℕ) (xs : List X)
    → GivesFrom (λ i. give (suc i)) n xs → GivesFrom give (n + 1) xs
gives-later give n [] gives = tt
gives-later give n (x ∷ xs) gives = (
  (let e : n + 1 ≡ suc n = omega arith in ap give e ∙ gives.0),
  gives-later give (n + 1) xs gives.1,
)

-- the look-up in a list gives the list
pub gives-get_or : {X : Type 0} (xs : List X) (d : X) → GivesFrom (λ i. get_or xs i d) 0 xs
gives-get_or [] d = tt
gives-get_or (x ∷ xs) d = (
  refl,
  gives-later (λ i. get_or (x ∷ xs) i d) 0 xs (gives-get_or xs d),
)

pub gives-slice_get : {X : Type 0} (xs : List X)
    → GivesFrom (slice_get xs) 0 (map (λ x. Some x) xs)
gives-slice_get [] = tt
gives-slice_get (x ∷ xs) = (
  refl,
  gives-later (slice_get (x ∷ xs)) 0 (map (λ z. Some z) xs) (gives-slice_get xs),
)
