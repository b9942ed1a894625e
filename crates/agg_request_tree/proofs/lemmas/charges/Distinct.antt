-- Lists without repeats, by a test of which elements are the same.
use Rattle.std.proofs.Common.{◌≡◌, ◌≤◌, ◌<◌, ◌||◌, ◌&&◌, ◌+◌, ℕ, Bool, true, false, cond}
use Rattle.std.proofs.Common.{List, [], ◌∷◌, length, refl, sym, ap, ◌∙◌, ⊎_elim, arith}
use Rattle.std.specs.Cmp.{IsEquivalence}
use Rattle.std.specs.Prelude.{if◌then◌else◌}
use Rattle.std.specs.List.{AllByRecursion, Contains, IsDistinct, count_by, list_all, list_any}
use Rattle.std.specs.List.{sum_by}
use Rattle.std.proofs.lemmas.List.Folds.{list_any_at}
use Rattle.std.proofs.lemmas.Map.Keys.{IsDistinct-head, IsDistinct-tail}
use Rattle.std.proofs.lemmas.Bool.{cond_both}
use Rattle.std.proofs.lemmas.List.Sums.{sum_by-cons}
use Rattle.agg_request_tree.specs.charges.Distinct.{distinct}
use Rattle.agg_request_tree.proofs.lemmas.charges.Tests.{absorbed, added, both, by_answer, clash}
use Rattle.agg_request_tree.proofs.lemmas.charges.Tests.{known, not_true, neither, second, weaker}
use Rattle.agg_request_tree.proofs.lemmas.charges.Sums.{sum_by-at_most, sum_by-constant}
use Rattle.agg_request_tree.proofs.lemmas.charges.Sums.{sum_by-swap}

module _ {X : Type 0} (same : X → X → Bool) (laws : IsEquivalence same) where
  -- no element is the same as a later one
  abbrev pub Apart : List X → Type 0
  Apart [] = Unit {0}
  Apart (x ∷ xs) = (list_any (same x) xs ≡ false) × Apart xs

  -- terms that are the same for elements that are
  abbrev pub Alike : (X → ℕ) → Type 0
  Alike f = (x y : X) → same x y ≡ true → f x ≡ f y

  -- of two elements that are the same a third is told alike
  told-alike : (x y z : X) → same x y ≡ true → same z y ≡ same x z
  told-alike x y z is = laws.symm z y ∙ sym (laws.congr x y z is)

  -- of two that are the same, where one is in a list, so is the other
  any-same : (x y : X) (xs : List X) → same x y ≡ true
      → list_any (same x) xs ≡ list_any (same y) xs
  any-same x y xs is = ap (λ test. list_any test xs) (λ i z. laws.congr x y z is i)

  -- ---- each once

  -- of each element there is one
  pub any-distinct : (x : X) (ys : List X)
      → list_any (same x) (distinct same ys) ≡ list_any (same x) ys
  any-distinct x [] = refl
  any-distinct x (y ∷ ys) =
      cond_both (list_any (same y) ys) (distinct same ys) (y ∷ distinct same ys)
      (λ zs. list_any (same x) zs ≡ (same x y || list_any (same x) ys))
      (λ later.
      any-distinct x ys
      ∙ absorbed (same x y) (list_any (same x) ys) (λ is. any-same x y ys is ∙ later))
      (λ none. ap (λ t. same x y || t) (any-distinct x ys))

  -- of each element there is only one
  pub distinct-apart : (xs : List X) → Apart (distinct same xs)
  distinct-apart [] = tt
  distinct-apart (x ∷ xs) =
      cond_both (list_any (same x) xs) (distinct same xs) (x ∷ distinct same xs) Apart
      (λ later. distinct-apart xs) (λ none. (any-distinct x xs ∙ none, distinct-apart xs))

  -- ---- sums

  -- a list without the first element that is the same
  abbrev without : X → List X → List X
  without x [] = []
  without x (y ∷ ys) = if same x y then ys else y ∷ without x ys

  sum_by-without : (f : X → ℕ) → Alike f → (x : X) (ys : List X) → list_any (same x) ys ≡ true
      → sum_by f ys ≡ f x + sum_by f (without x ys)
  sum_by-without f alike x [] has = absurd (cc)
  sum_by-without f alike x (y ∷ ys) has =
      cond_both (same x y) ys (y ∷ without x ys)
      (λ zs. sum_by f (y ∷ ys) ≡ f x + sum_by f zs)
      (λ is. omega (arith, sum_by-cons f y ys, alike x y is))
      (λ other. omega (
        arith,
        sum_by-cons f y ys,
        sum_by-cons f y (without x ys),
        sum_by-without f alike x ys
            (second (same x y) (list_any (same x) ys) has other),
      ))

  -- another element is still there
  any-without : (x z : X) (ys : List X) → same x z ≡ false → list_any (same z) ys ≡ true
      → list_any (same z) (without x ys) ≡ true
  any-without x z [] other has = has
  any-without x z (y ∷ ys) other has =
      cond_both (same x y) ys (y ∷ without x ys) (λ zs. list_any (same z) zs ≡ true)
      (λ is. second (same z y) (list_any (same z) ys) has (told-alike x y z is ∙ other))
      (λ not.
      weaker (same z y) (list_any (same z) ys) (list_any (same z) (without x ys)) has
      (any-without x z ys other))

  -- elements that are apart, each in another list, have at most the sum of that list
  pub sum_by-apart : (f : X → ℕ) → Alike f → (xs ys : List X) → Apart xs
      → ((z : X) → list_any (same z) xs ≡ true → list_any (same z) ys ≡ true)
      → sum_by f xs ≤ sum_by f ys
  sum_by-apart f alike [] ys apart within = omega arith
  sum_by-apart f alike (x ∷ xs) ys apart within =
      let there : list_any (same x) ys ≡ true =
      within x (known (same x x) (list_any (same x) xs) (laws.refl x)) in
      let differs : (z : X) → list_any (same z) xs ≡ true → same x z ≡ false =
      λ z has.
      not_true (same x z)
      (λ is. clash (list_any (same x) xs) (any-same x z xs is ∙ has) apart.0) in
      omega (
        arith,
        sum_by-cons f x xs,
        sum_by-without f alike x ys there,
        sum_by-apart f alike xs (without x ys) apart.1
            (λ z has.
            any-without x z ys (differs z has)
            (within z (added (same z x) (list_any (same z) xs) has))),
      )

  -- ---- places

  -- whether an element stands at a place
  abbrev mark : X → X → ℕ
  mark y x = cond (same x y) 1 0

  mark-none : (y x : X) (xs : List X) → same x y ≡ true → list_any (same x) xs ≡ false
      → sum_by (mark y) xs ≡ 0
  mark-none y x [] is none = refl
  mark-none y x (z ∷ xs) is none =
      let others = neither (same x z) (list_any (same x) xs) none in
      omega (
        arith,
        sum_by-cons (mark y) z xs,
        ap {B = ℕ} (λ t. cond t 1 0) (told-alike x y z is ∙ others.0),
        mark-none y x xs is others.1,
      )

  -- of elements that are apart one at most stands at a place
  mark-one : (y : X) (xs : List X) → Apart xs → sum_by (mark y) xs ≤ 1
  mark-one y [] apart = omega arith
  mark-one y (x ∷ xs) apart = ⊎_elim
      (λ is. omega (
        arith,
        sum_by-cons (mark y) x xs,
        ap {B = ℕ} (λ t. cond t 1 0) is,
        mark-none y x xs is apart.0,
      ))
      (λ other. omega (
        arith,
        sum_by-cons (mark y) x xs,
        ap {B = ℕ} (λ t. cond t 1 0) other,
        mark-one y xs apart.1,
      ))
      (by_answer (same x y))

  -- elements that are apart stand at no more places than there are
  pub sum_by-places : (xs ys : List X) → Apart xs
      → sum_by (λ x. count_by (same x) ys) xs ≤ length ys
  sum_by-places xs ys apart = omega (
    arith,
    sum_by-swap (λ x y. cond (same x y) 1 0) xs ys,
    sum_by-at_most (λ y. sum_by (mark y) xs) (λ y. 1) ys (λ y. mark-one y xs apart),
    sum_by-constant 1 ys,
  )

  -- an element of a list stands at some place
  pub count_by-some : (x : X) (ys : List X) → list_any (same x) ys ≡ true
      → 0 < count_by (same x) ys
  count_by-some x [] has = absurd (cc)
  count_by-some x (y ∷ ys) has = ⊎_elim
      (λ is. omega (
        arith,
        sum_by-cons (λ z. cond (same x z) 1 0) y ys,
        ap {B = ℕ} (λ t. cond t 1 0) is,
      ))
      (λ other. omega (
        arith,
        sum_by-cons (λ z. cond (same x z) 1 0) y ys,
        count_by-some x ys (second (same x y) (list_any (same x) ys) has other),
      ))
      (by_answer (same x y))

  -- what stands at some place is an element
  pub any-counted : (x : X) (ys : List X) → 0 < count_by (same x) ys
      → list_any (same x) ys ≡ true
  any-counted x [] some = absurd (omega (arith, some))
  any-counted x (y ∷ ys) some = ⊎_elim (known (same x y) (list_any (same x) ys))
      (λ other.
      added (same x y) (list_any (same x) ys)
      (any-counted x ys (omega (
        arith,
        some,
        sum_by-cons (λ z. cond (same x z) 1 0) y ys,
        ap {B = ℕ} (λ t. cond t 1 0) other,
      ))))
      (by_answer (same x y))

  -- ---- elements of one list in another

  -- what is the same as an element is an element of what has them all
  pub any-held : (z : X) (xs ys : List X)
      → AllByRecursion (λ x. list_any (same x) ys ≡ true) xs → list_any (same z) xs ≡ true
      → list_any (same z) ys ≡ true
  any-held z [] ys held has = absurd (cc)
  any-held z (x ∷ xs) ys held has = ⊎_elim (λ is. any-same z x ys is ∙ held.0)
      (λ other.
      any-held z xs ys held.1 (second (same z x) (list_any (same z) xs) has other))
      (by_answer (same z x))

  -- an element of a list is the same as one
  pub any-contained : (z : X) (xs : List X) → Contains xs z → list_any (same z) xs ≡ true
  any-contained z xs c =
      list_any_at (same z) xs c.0 z c.1 (ap (same z) c.2 ∙ laws.refl z)

  -- lists that are apart and have each other's elements have one sum
  pub sum_by-exchanged : (f : X → ℕ) → Alike f → (xs ys : List X) → Apart xs → Apart ys
      → ((z : X) → list_any (same z) xs ≡ true → list_any (same z) ys ≡ true)
      → ((z : X) → list_any (same z) ys ≡ true → list_any (same z) xs ≡ true)
      → sum_by f xs ≡ sum_by f ys
  sum_by-exchanged f alike xs ys apart others there back = omega (
    arith,
    sum_by-apart f alike xs ys apart there,
    sum_by-apart f alike ys xs others back,
  )

  -- a list that is distinct is apart
  pub Apart-distinct : (xs : List X) → IsDistinct same xs → Apart xs
  Apart-distinct [] differ = tt
  Apart-distinct (x ∷ xs) differ = (
    none x xs (IsDistinct-head same x xs differ),
    Apart-distinct xs (IsDistinct-tail same x xs differ),
  )
    where
      none : (x : X) (ys : List X) → AllByRecursion (λ y. same x y ≡ false) ys
          → list_any (same x) ys ≡ false
      none x [] others = refl
      none x (y ∷ ys) others = ap (λ t. t || list_any (same x) ys) others.0 ∙ none x ys others.1

  -- ---- tests that all pass

  module _ (passes : X → Bool) where
    -- where all pass, so does what is the same as one
    pub passes-any : ((x y : X) → same x y ≡ true → passes x ≡ passes y) → (z : X) (xs : List X)
        → list_all passes xs ≡ true → list_any (same z) xs ≡ true → passes z ≡ true
    passes-any alike z [] all has = absurd (cc)
    passes-any alike z (x ∷ xs) all has =
        let parts = both (passes x) (list_all passes xs) all in
        ⊎_elim (λ is. alike z x is ∙ parts.0)
        (λ other.
        passes-any alike z xs parts.1 (second (same z x) (list_any (same z) xs) has other))
        (by_answer (same z x))

    -- all pass where each does that is the same as one
    pub list_all-each : (xs : List X)
        → ((z : X) → list_any (same z) xs ≡ true → passes z ≡ true)
        → list_all passes xs ≡ true
    list_all-each [] each = refl
    list_all-each (x ∷ xs) each =
        (λ i. each x (known (same x x) (list_any (same x) xs) (laws.refl x)) i
        && list_all-each xs (λ z has. each z (added (same z x) (list_any (same z) xs) has)) i)
