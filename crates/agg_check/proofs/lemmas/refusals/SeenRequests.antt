-- What is seen so far of a request, aggregation by aggregation.
use Rattle.std.proofs.Common.{◌≡◌, ◌≤◌, ℕ, List, [], ◌∷◌, ◌++◌, ap, sym, ◌∙◌, subst, arith}
use Rattle.std.specs.List.{All, Any}
use Rattle.std.proofs.lemmas.List.{append_assoc}
use Rattle.std.proofs.lemmas.List.Elements.{All-append, All-nil}
use Rattle.agg_request_tree.specs.Request.{Request, agg_of, below_of, listed_in, listed_of}
use Rattle.agg_request_tree.specs.declared.aggregation.Aggregation.{Aggregation}
use Rattle.agg_request_tree.specs.declared.aggregation.AggregationVariants.{AggregationVariants}
use Rattle.agg_request_tree.proofs.CheckedRequests.{Any-back, Any-front}
use Rattle.agg_request_tree.proofs.RequestTrees.{levels, listed-out}

module _ {B X : Type 0} (own : AggregationVariants B → List X) (P : X → Type 0) where
  -- what is listed before the aggregations that are left is such, and these have no more levels
  pub record IsSeenUpTo (all left : Request B) : Type 0 where
    pub front : List X
    pub is : listed_of own all ≡ front ++ listed_of own left
    pub such : All P front
    pub lower : levels left ≤ levels all

  -- none is seen yet
  pub IsSeenUpTo-none : (all left : Request B) → left ≡ all → IsSeenUpTo all left
  IsSeenUpTo-none all left e = record {
    front = [];
    is = ap (λ (r : Request B). listed_of own r) (sym e);
    such = All-nil P;
    lower = subst (λ (r : Request B). levels left ≤ levels r) e (omega arith);
  }

  -- one more lists only such
  pub IsSeenUpTo-more : (all left : Request B) (name : List ℕ) (a : Aggregation B)
      (later : Request B) → IsSeenUpTo all left → left ≡ (name, a) ∷ later
      → All P (listed_in own a) → IsSeenUpTo all later
  IsSeenUpTo-more all left name a later h e such =
      let here : IsSeenUpTo all ((name, a) ∷ later) =
      subst (λ (r : Request B). IsSeenUpTo all r) e h in
      record {
        front = here.front ++ listed_in own a;
        is = here.is ∙ sym (append_assoc here.front (listed_in own a) (listed_of own later));
        such = All-append P here.front (listed_in own a) here.such such;
        lower = omega (arith, here.lower);
      }

  -- all list only such
  pub IsSeenUpTo-all : (all left : Request B) → IsSeenUpTo all left → left ≡ []
      → All P (listed_of own all)
  IsSeenUpTo-all all left h e =
      let here : IsSeenUpTo all [] = subst (λ (r : Request B). IsSeenUpTo all r) e h in
      subst (All P) (sym here.is) (All-append P here.front [] here.such (All-nil P))

  -- what one of those left lists is listed
  pub Any-of_next : (Q : X → Type 0) (all left : Request B) (name : List ℕ) (a : Aggregation B)
      (later : Request B) → IsSeenUpTo all left → left ≡ (name, a) ∷ later
      → Any Q (listed_in own a) → Any Q (listed_of own all)
  Any-of_next Q all left name a later h e has =
      let here : IsSeenUpTo all ((name, a) ∷ later) =
      subst (λ (r : Request B). IsSeenUpTo all r) e h in
      subst (Any Q) (sym here.is)
      (Any-back Q here.front (listed_in own a ++ listed_of own later)
      (Any-front Q (listed_in own a) (listed_of own later) has))

-- ---- one aggregation

module _ {B X : Type 0} (own : AggregationVariants B → List X) (P : X → Type 0)
    (a : Aggregation B) where
  -- it lists only such, where it and those below it do
  pub All-of_parts : All P (own (agg_of a)) → All P (listed_of own (below_of a))
      → All P (listed_in own a)
  All-of_parts here below =
      subst (All P) (sym (listed-out own a))
      (All-append P (own (agg_of a)) (listed_of own (below_of a)) here below)

  -- it lists what it lists by itself
  pub Any-of_own : Any P (own (agg_of a)) → Any P (listed_in own a)
  Any-of_own has =
      subst (Any P) (sym (listed-out own a))
      (Any-front P (own (agg_of a)) (listed_of own (below_of a)) has)

  -- an aggregation lists what those below it list
  pub Any-of_below : Any P (listed_of own (below_of a)) → Any P (listed_in own a)
  Any-of_below has =
      subst (Any P) (sym (listed-out own a))
      (Any-back P (own (agg_of a)) (listed_of own (below_of a)) has)
