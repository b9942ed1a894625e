-- The builders that requests ask for.
use Rattle.std.proofs.Common.{◌≡◌, List, [], ◌∷◌, ◌++◌, Bool, MatchBool, refl, ap, sym, ◌∙◌, subst}
use Rattle.std.proofs.Common.{ℕ, arith}
use Rattle.std.specs.List.{All}
use Rattle.agg_request_tree.specs.Request.{Request, agg_of, below_of, builders_of, listed_in}
use Rattle.agg_request_tree.specs.Request.{own_builder}
use Rattle.agg_request_tree.specs.declared.aggregation.Aggregation.{Aggregation}
use Rattle.agg_request_tree.proofs.RequestTrees.{listed-out}
use Rattle.agg_check.proofs.lemmas.refusals.SeenRequests.{IsSeenUpTo}

-- the middle of nothing is nothing
empty-middle : {X : Type 0} (xs ys zs : List X) → xs ++ (ys ++ zs) ≡ [] → ys ≡ []
empty-middle [] [] zs e = refl
empty-middle [] (y ∷ ys) zs e = cc e
empty-middle (x ∷ xs) ys zs e = cc e

-- what has no item is empty
pub empty-where_none : {X : Type 0} (xs : List X) → All (λ x. ⊥) xs → xs ≡ []
empty-where_none [] none = refl
empty-where_none (x ∷ xs) none = absurd (none 0 x (omega arith))

-- a request asks for a builder, where one of those left does
pub builder-of_next : {B : Type 0} (all left : Request B) (name : List ℕ) (a : Aggregation B)
    (later : Request B) → IsSeenUpTo own_builder (λ b. ⊥) all left → left ≡ (name, a) ∷ later
    → ¬ (listed_in own_builder a ≡ []) → ¬ (builders_of all ≡ [])
builder-of_next {B = B} all left name a later h e asks none =
    let here : IsSeenUpTo own_builder (λ b. ⊥) all ((name, a) ∷ later) =
    subst (λ (r : Request B). IsSeenUpTo own_builder (λ b. ⊥) all r) e h in
    asks (empty-middle here.front (listed_in own_builder a) (builders_of later)
    (sym here.is ∙ none))

-- an aggregation that asks for none by itself asks for those below it
pub builders-below : {B : Type 0} (a : Aggregation B) (asks : Bool) → own_builder (agg_of a) ≡ []
    → MatchBool asks (¬ (builders_of (below_of a) ≡ [])) (builders_of (below_of a) ≡ [])
    → MatchBool asks (¬ (listed_in own_builder a ≡ [])) (listed_in own_builder a ≡ [])
builders-below {B = B} a asks none below =
    subst (λ (bs : List B). MatchBool asks (¬ (bs ≡ [])) (bs ≡ []))
    (sym (listed-out own_builder a
    ∙ ap (λ (bs : List B). bs ++ builders_of (below_of a)) none)) below
