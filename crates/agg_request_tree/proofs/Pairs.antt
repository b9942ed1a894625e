-- Two lists that are compared item by item.
use Rattle.std.proofs.Common.{◌≡◌, ◌↔◌, ◌∷◌, [], List, Bool, true, false, IsTrue, Option, None}
use Rattle.std.proofs.Common.{Some, MatchOption, not, refl, sym, ◌∙◌}
use Rattle.std.specs.Option.{is_some}

-- what is left of two lists is the same exactly where they are
abbrev pub AreSameSoFar : {X : Type 0} → List X → List X → List X → List X → Type 0
AreSameSoFar xs ys left rest = (left ≡ rest) ↔ (xs ≡ ys)

-- all is left
pub none-compared : {X : Type 0} (xs ys left rest : List X) → left ≡ xs → rest ≡ ys
    → AreSameSoFar xs ys left rest
none-compared xs ys left rest is also =
    (λ same. sym is ∙ same ∙ also, λ same. is ∙ same ∙ sym also)

-- one more is the same
pub one-same : {X : Type 0} (xs ys left rest : List X) (x y : X) (later after : List X)
    → AreSameSoFar xs ys left rest → left ≡ x ∷ later → rest ≡ y ∷ after → x ≡ y
    → AreSameSoFar xs ys later after
one-same xs ys left rest x y later after h is also one = (
  λ same. h.0 (is ∙ (λ i. one i ∷ same i) ∙ sym also),
  λ same. tails (sym is ∙ h.1 same ∙ also),
)
  where
    tails : x ∷ later ≡ y ∷ after → later ≡ after
    tails e = cc

-- what is left isn't the same
pub other-left : {X : Type 0} (xs ys left rest : List X) → AreSameSoFar xs ys left rest
    → (left ≡ rest → ⊥) → IsTrue false ↔ (xs ≡ ys)
other-left xs ys left rest h apart = (λ yes. absurd (cc), λ same. absurd (apart (h.1 same)))

-- where nothing is left of one, the next item of the other tells whether they are the same
pub one-ended : {X A : Type 0} {P : Type 0} {Q : A → Type 0} (xs ys left rest : List X)
    (next : Option A) (r : Bool) → AreSameSoFar xs ys left rest → left ≡ []
    → is_some next ≡ not r → MatchOption next P Q → (P → rest ≡ [])
    → ((a : A) → Q a → rest ≡ [] → ⊥) → IsTrue r ↔ (xs ≡ ys)
one-ended xs ys left rest None true h is told ends ended more =
    (λ yes. h.0 (is ∙ sym (ended ends)), λ same. refl)
one-ended xs ys left rest None false h is told ends ended more = absurd (cc)
one-ended xs ys left rest (Some a) true h is told ends ended more = absurd (cc)
one-ended xs ys left rest (Some a) false h is told ends ended more =
    (λ yes. absurd (cc), λ same. absurd (more a ends (sym (h.1 same) ∙ is)))
