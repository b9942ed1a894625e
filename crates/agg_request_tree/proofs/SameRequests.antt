-- Requests that are compared aggregation by aggregation.
use Rattle.std.proofs.Common.{◌≡◌, ◌↔◌, ◌∷◌, ◌++◌, [], ℕ, List, Bool, true, false, IsTrue, Option}
use Rattle.std.proofs.Common.{None, Some, MatchOption, not, refl, sym, subst, ap, ◌∙◌}
use Rattle.std.specs.Option.{is_some}
use Rattle.agg_request_tree.specs.Request.{IsSame, Request, agg_of, below_of, builders_of}
use Rattle.agg_request_tree.specs.Request.{listed_in}
use Rattle.agg_request_tree.specs.Request.{own_builder}
use Rattle.agg_request_tree.specs.declared.aggregation.Aggregation.{Aggregation}
use Rattle.agg_request_tree.proofs.RequestTrees.{listed-out, made-of_parts}

-- two lists one after the other are empty where they are together
both-empty : {X : Type 0} (xs ys : List X) → xs ++ ys ≡ [] → (xs ≡ []) × (ys ≡ [])
both-empty [] ys e = (refl, e)
both-empty (x ∷ xs) ys e = absurd (cc)

module _ {B : Type 0} where
  -- two requests are the same, and have no builders
  abbrev pub AreSame : Request B → Request B → Type 0
  AreSame request other = (request ≡ other) × (builders_of request ≡ [])

  -- what is left of two requests is the same exactly where they are
  abbrev pub AreSameUpTo : Request B → Request B → Request B → Request B → Type 0
  AreSameUpTo all others left rest = AreSame left rest ↔ AreSame all others

  -- all is left
  pub all-left : (all others left rest : Request B) → left ≡ all → rest ≡ others
      → AreSameUpTo all others left rest
  all-left all others left rest is also =
      subst (λ (r : Request B). AreSameUpTo r others left rest) is
      (subst (λ (r : Request B). AreSameUpTo left r left rest) also (λ h. h, λ h. h))

  -- the first of what is left is the same, and so are the others
  first-same : (name other_name : List ℕ) (a b : Aggregation B) (later after : Request B)
      → AreSame ((name, a) ∷ later) ((other_name, b) ∷ after)
      → (name ≡ other_name) × IsSame a b × AreSame later after
  first-same name other_name a b later after same =
      let pairs : ◌≡◌ {A = List ℕ × Aggregation B} (name, a) (other_name, b) = cc in
      let rest : later ≡ after = cc in
      let none = both-empty (listed_in own_builder a) (builders_of later) same.1 in
      (ap (λ e. e.0) pairs, (ap (λ e. e.1) pairs, none.0), (rest, none.1))

  -- one more is the same
  pub one-more : (all others left rest : Request B) (name other_name : List ℕ)
      (a b : Aggregation B) (later after : Request B) → AreSameUpTo all others left rest
      → left ≡ (name, a) ∷ later → rest ≡ (other_name, b) ∷ after → name ≡ other_name
      → IsSame a b → AreSameUpTo all others later after
  one-more all others left rest name other_name a b later after h is also named same = (
    λ more. here.0 (together more),
    λ whole. (first-same name other_name a b later after (here.1 whole)).2,
  )
    where
      here : AreSameUpTo all others ((name, a) ∷ later) ((other_name, b) ∷ after)
      here =
          subst (λ (r : Request B). AreSameUpTo all others r ((other_name, b) ∷ after)) is
          (subst (λ (r : Request B). AreSameUpTo all others left r) also h)

      together : AreSame later after → AreSame ((name, a) ∷ later) ((other_name, b) ∷ after)
      together more = (
        λ i. (named i, same.0 i) ∷ more.0 i,
        λ i. same.1 i ++ more.1 i,
      )

  -- what is left isn't the same
  pub apart : (all others left rest : Request B) → AreSameUpTo all others left rest
      → (AreSame left rest → ⊥) → IsTrue false ↔ AreSame all others
  apart all others left rest h none = (λ yes. absurd (cc), λ same. absurd (none (h.1 same)))

  -- something is left of one alone
  pub none-left : (left rest : Request B) (name : List ℕ) (a : Aggregation B) (later : Request B)
      → left ≡ (name, a) ∷ later → rest ≡ [] → AreSame left rest → ⊥
  none-left left rest name a later is none same = let e = same.0 in absurd (cc)

  -- the names of the first of what is left, or these, differ
  pub first-apart : (left rest : Request B) (name other_name : List ℕ) (a b : Aggregation B)
      (later after : Request B) → left ≡ (name, a) ∷ later → rest ≡ (other_name, b) ∷ after
      → ((name ≡ other_name) × IsSame a b → ⊥) → AreSame left rest → ⊥
  first-apart left rest name other_name a b later after is also differ same =
      let whole : AreSame ((name, a) ∷ later) ((other_name, b) ∷ after) =
      subst (λ (r : Request B). AreSame r ((other_name, b) ∷ after)) is
      (subst (λ (r : Request B). AreSame left r) also same) in
      let firsts = first-same name other_name a b later after whole in
      differ (firsts.0, firsts.1)

  -- where nothing is left of one, the next of the other tells whether they are the same
  pub all-compared : {A : Type 0} {P : Type 0} {Q : A → Type 0} (all others left rest : Request B)
      (next : Option A) (r : Bool) → AreSameUpTo all others left rest → left ≡ []
      → is_some next ≡ not r → MatchOption next P Q → (P → rest ≡ [])
      → ((a : A) → Q a → rest ≡ [] → ⊥) → IsTrue r ↔ AreSame all others
  all-compared all others left rest None true h is told ends ended more =
      (λ yes. h.0 (is ∙ sym (ended ends), ap builders_of is), λ same. refl)
  all-compared all others left rest None false h is told ends ended more = absurd (cc)
  all-compared all others left rest (Some a) true h is told ends ended more = absurd (cc)
  all-compared all others left rest (Some a) false h is told ends ended more =
      (λ yes. absurd (cc), λ same. absurd (more a ends (sym (h.1 same).0 ∙ is)))

  -- one aggregation is the same as another where their kinds are and those below them
  pub same-out : (a b : Aggregation B) (r : Bool)
      → (agg_of a ≡ agg_of b) × (own_builder (agg_of a) ≡ [])
      → IsTrue r ↔ AreSame (below_of a) (below_of b) → IsTrue r ↔ IsSame a b
  same-out a b r kind below = (λ yes. together (below.0 yes), λ same. below.1 (beneath same))
    where
      together : AreSame (below_of a) (below_of b) → IsSame a b
      together same = (
        made-of_parts a (agg_of b) (below_of b) kind.0 same.0
            ∙ sym (made-of_parts b (agg_of b) (below_of b) refl refl),
        listed-out own_builder a ∙ (λ i. kind.1 i ++ same.1 i),
      )

      beneath : IsSame a b → AreSame (below_of a) (below_of b)
      beneath same = (
        ap below_of same.0,
        (both-empty (own_builder (agg_of a)) (builders_of (below_of a))
            (sym (listed-out own_builder a) ∙ same.1)).1,
      )
