-- The tree of a context, node by node, and the aggregations of its request.
use Rattle.std.proofs.Common.{◌≡◌, ℕ, zero, suc, ◌+◌, ◌<◌, List, [], ◌∷◌, ◌++◌, Some, get_or}
use Rattle.std.proofs.Common.{length, map, take, refl, sym, ap, ◌∙◌, subst, arith}
use Rattle.std.specs.Prelude.{slice_get}
use Rattle.std.proofs.lemmas.List.{take_more}
use Rattle.std.proofs.lemmas.Option.{get_or_from_slice_get, slice_get_within}
use Rattle.agg_segment.specs.declared.query.QueryTree.{QueryTree}
use Rattle.agg_request_tree.specs.Request.{Request, agg_of, below_of}
use Rattle.agg_request_tree.specs.declared.aggregation.Aggregation.{Aggregation}
use Rattle.agg_engine_tree.specs.segment_context.Context.{ArePlansOf, IsAskedAt, IsPlanOf, Meaning}
use Rattle.agg_engine_tree.specs.segment_context.Plan.{Plan, Plans, plan_of, plan_step, plans_of}
use Rattle.agg_engine_tree.specs.declared.segment_context.context.PerRequestAggSegCtx.{
  PerRequestAggSegCtx,
}
use Rattle.agg_engine_tree.specs.declared.segment_context.node.AggRefNode.{AggRefNode}
use Rattle.agg_engine_tree.specs.declared.segment_context.node.AggRefNode.TheViews.{out-AggRefNode}
use Rattle.agg_engine_tree.specs.declared.segment_context.node.AggRefNode.TheFolds.{
  fold_out-AggRefNode,
}

-- the plan of a node: its kind and index, and the plans of those below it
pub plan-out : (n : AggRefNode)
    → plan_of n
    ≡ Plan.node (out-AggRefNode n).kind (out-AggRefNode n).idx_in_req_data
    (plans_of (map plan_of (out-AggRefNode n).children))
plan-out n = fold_out-AggRefNode Plan plan_step n

module _ (meaning : Meaning) (ctx : PerRequestAggSegCtx) where
  -- what a node's aggregation asks stands at its index
  pub plan-asked : (name : List ℕ) (a : Aggregation QueryTree) (n : AggRefNode)
      → IsPlanOf meaning ctx name a (plan_of n)
      → IsAskedAt meaning ctx name (agg_of a) (out-AggRefNode n).kind
      (out-AggRefNode n).idx_in_req_data
  plan-asked name a n planned = (subst (IsPlanOf meaning ctx name a) (plan-out n) planned).0

  -- the plans of the same nodes
  pub plans-same : (request : Request QueryTree) (nodes same : List AggRefNode) → same ≡ nodes
      → ArePlansOf meaning ctx request (plans_of (map plan_of nodes))
      → ArePlansOf meaning ctx request (plans_of (map plan_of same))
  plans-same request nodes same is =
      subst (λ (ns : List AggRefNode). ArePlansOf meaning ctx request (plans_of (map plan_of ns)))
      (sym is)

  -- those below the node are of those below the aggregation
  pub plan-below : (name : List ℕ) (a : Aggregation QueryTree) (n : AggRefNode)
      (below : List AggRefNode) → below ≡ (out-AggRefNode n).children
      → IsPlanOf meaning ctx name a (plan_of n)
      → ArePlansOf meaning ctx (below_of a) (plans_of (map plan_of below))
  plan-below name a n below is planned =
      plans-same (below_of a) (out-AggRefNode n).children below is
      (subst (IsPlanOf meaning ctx name a) (plan-out n) planned).1

  -- no nodes are of no aggregations
  plans-none : (request : Request QueryTree) → ArePlansOf meaning ctx request Plans.none
      → request ≡ []
  plans-none [] planned = refl
  plans-none (a ∷ request) planned = absurd planned

  -- with no nodes below it, an aggregation has none below it
  pub plan-leaf : (name : List ℕ) (a : Aggregation QueryTree) (n : AggRefNode)
      → (out-AggRefNode n).children ≡ [] → IsPlanOf meaning ctx name a (plan_of n)
      → below_of a ≡ []
  plan-leaf name a n none planned =
      plans-none (below_of a) (plan-below name a n [] (sym none) planned)

  -- there are as many nodes as aggregations
  pub plans-long : (request : Request QueryTree) (nodes : List AggRefNode)
      → ArePlansOf meaning ctx request (plans_of (map plan_of nodes))
      → length request ≡ length nodes
  plans-long [] [] planned = refl
  plans-long [] (n ∷ nodes) planned = absurd planned
  plans-long (a ∷ request) [] planned = absurd planned
  plans-long (a ∷ request) (n ∷ nodes) planned = ap suc (plans-long request nodes planned.1)

  -- the node at an index is of the aggregation there
  pub plan-at : (request : Request QueryTree) (nodes : List AggRefNode) (i : ℕ) (n : AggRefNode)
      → i < length nodes → n ≡ get_or nodes i n
      → ArePlansOf meaning ctx request (plans_of (map plan_of nodes))
      → (a : List ℕ × Aggregation QueryTree) × (slice_get request i ≡ Some a)
      × IsPlanOf meaning ctx a.0 a.1 (plan_of n)
  plan-at [] [] i n l is planned = absurd (omega (arith, l))
  plan-at [] (m ∷ nodes) i n l is planned = absurd planned
  plan-at (a ∷ request) [] i n l is planned = absurd planned
  plan-at (a ∷ request) (m ∷ nodes) zero n l is planned =
      let own = subst (λ (x : AggRefNode). IsPlanOf meaning ctx a.0 a.1 (plan_of x)) (sym is)
      planned.0 in
      (a, refl, own)
  plan-at (a ∷ request) (m ∷ nodes) (suc i) n l is planned =
      plan-at request nodes i n (omega (arith, l)) is planned.1

-- the first aggregations with that at the index
pub request-more : (request : Request QueryTree) (i : ℕ) (a : List ℕ × Aggregation QueryTree)
    → slice_get request i ≡ Some a → take (i + 1) request ≡ take i request ++ a ∷ []
request-more request i a at =
    take_more request i a (slice_get_within request i a at)
    ∙ ap (λ b. take i request ++ b ∷ []) (get_or_from_slice_get request i a a at)
