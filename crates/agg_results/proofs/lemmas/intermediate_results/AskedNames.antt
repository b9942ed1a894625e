-- Results that are held under names that a request asks for, name by name.
use Rattle.std.proofs.Common.{◌≡◌, ◌<◌, ℕ, zero, suc, List, [], ◌∷◌, Some, get_or, length, map}
use Rattle.std.proofs.Common.{refl, sym, subst, inl, inr, Bool, true, false, arith}
use Rattle.std.specs.Bool.{MatchBool}
use Rattle.std.specs.List.{Any}
use Rattle.std.specs.Map.{keys_of}
use Rattle.std.proofs.lemmas.Map.Keys.{sorted_tail}
use Rattle.std.proofs.lemmas.Option.{none-some}
use Rattle.agg_values.specs.Names.{Named, name_cmp, value_of}
use Rattle.agg_values.proofs.NameOrder.{Ascends, value-cases, value-first}
use Rattle.agg_values.proofs.NameOrder.{value-later}
use Rattle.agg_results.specs.intermediate_results.Merging.{SomeOfBoth}
use Rattle.agg_results.proofs.lemmas.intermediate_results.LeftOver.{Any-later}

-- ---- some of a list

module _ {X Y : Type 0} (P : Y → Type 0) (f : X → Y) where
  Any-mapped : (xs : List X) → Any (λ x. P (f x)) xs → Any P (map f xs)
  Any-mapped [] (k, x, within, at, holds) = absurd (omega arith)
  Any-mapped (x ∷ xs) (zero, y, within, at, holds) =
      (0, f x, omega arith, refl, subst (λ z. P (f z)) (sym at) holds)
  Any-mapped (x ∷ xs) (suc k, y, within, at, holds) =
      Any-later P (f x) (map f xs) (Any-mapped xs (k, y, omega arith, at, holds))

  Any-unmapped : (xs : List X) → Any P (map f xs) → Any (λ x. P (f x)) xs
  Any-unmapped [] (k, y, within, at, holds) = absurd (omega arith)
  Any-unmapped (x ∷ xs) (zero, y, within, at, holds) =
      (0, x, omega arith, refl, subst P (sym at) holds)
  Any-unmapped (x ∷ xs) (suc k, y, within, at, holds) =
      Any-later (λ z. P (f z)) x xs (Any-unmapped xs (k, y, omega arith, at, holds))

  -- what is told of some element is told of some that is made of it
  pub match-mapped : (told : Bool) (xs : List X)
      → MatchBool told (Any (λ x. P (f x)) xs) (¬ (Any (λ x. P (f x)) xs))
      → MatchBool told (Any P (map f xs)) (¬ (Any P (map f xs)))
  match-mapped true xs any = Any-mapped xs any
  match-mapped false xs none = λ any. none (Any-unmapped xs any)

-- what is told of one is told of some of it alone
pub match-only : {X : Type 0} (P : X → Type 0) (told : Bool) (x : X)
    → MatchBool told (P x) (¬ (P x)) → MatchBool told (Any P (x ∷ [])) (¬ (Any P (x ∷ [])))
match-only P true x holds = (0, x, omega arith, refl, holds)
match-only P false x none = λ any. by any
  where
    by : Any P (x ∷ []) → ⊥
    by (zero, y, within, at, holds) = none (subst P (sym at) holds)
    by (suc k, y, within, at, holds) = absurd (omega arith)

-- ---- names

-- an entry's value is that of its name
pub value-at : {T : Type 0} (held : Named T) (k : ℕ) (e : List ℕ × T) → Ascends held
    → k < length held → get_or held k e ≡ e → value_of e.0 held ≡ Some e.1
value-at [] k e ascends within at = absurd (omega arith)
value-at {T = T} (first ∷ later) zero e ascends within at =
    subst (λ (x : List ℕ × T). value_of x.0 (first ∷ later) ≡ Some x.1) at
    (value-first first.0 first.1 later)
value-at (first ∷ later) (suc k) e ascends within at =
    value-later e.0 first later e.1 ascends
    (value-at later k e (sorted_tail name_cmp first.0 (keys_of later) ascends) (omega arith) at)

module _ {A T : Type 0} (Told : A → T → Type 0) (request : Named A) where
  -- what is told of an entry and of what is asked under its name
  abbrev pub IsToldAt : List ℕ × T → Type 0
  IsToldAt e = (a : A) × (value_of e.0 request ≡ Some a) × Told a e.1

  -- what is told of a name is told of its entry
  pub told-entry : (held : Named T) → SomeOfBoth Told request held → Any IsToldAt held
  told-entry [] (name, a, r, asked, found, told) = absurd (none-some r found)
  told-entry (first ∷ later) (name, a, r, asked, found, told) =
      elim (value-cases name first later r found) [
        | inl here ↦ (
          0,
          first,
          omega arith,
          refl,
          (
            a,
            subst (λ n. value_of n request ≡ Some a) here.0 asked,
            subst (Told a) (sym here.1) told,
          ),
        )
        | inr there ↦
            Any-later IsToldAt first later (told-entry later (name, a, r, asked, there, told))
      ]
