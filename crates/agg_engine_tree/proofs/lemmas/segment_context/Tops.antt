-- Filters that know whether they stand at the top.
use Rattle.std.proofs.Common.{◌≡◌, ℕ, Bool, List, [], ◌∷◌, ◌++◌, Option, None, Some, ap, false}
use Rattle.std.proofs.Common.{map, option_map, refl, slice_get, sym, subst, ◌∙◌}
use Rattle.std.proofs.lemmas.List.{map-append}
use Rattle.std.proofs.lemmas.Option.{none-some}
use Rattle.agg_filter.specs.declared.request_data.FilterAggReqData.{FilterAggReqData}
use Rattle.agg_engine_tree.specs.segment_context.Additions.{StaysIn}
use Rattle.agg_engine_tree.specs.segment_context.Plan.{Plan, Plans, plan_of, plans_of}
use Rattle.agg_engine_tree.specs.segment_context.Tops.{KnowsOwn, KnowsTop, KnowTop}
use Rattle.agg_engine_tree.specs.declared.segment_context.node.AggKind.{AggKind}
use Rattle.agg_engine_tree.specs.declared.segment_context.node.AggKind.TheVariants as kind
use Rattle.agg_engine_tree.specs.declared.segment_context.node.AggRefNode.{AggRefNode}
use Rattle.agg_engine_tree.specs.declared.segment_context.node.AggRefNode.TheViews.{roll-AggRefNode}
use Rattle.agg_engine_tree.proofs.lemmas.segment_context.Nodes.{plan-rolled}

module _ (old new : List FilterAggReqData) (stays : StaysIn old new) where
  -- what is told of an item that stays
  told-stays : (index : ℕ) (top : Bool) (found : Option FilterAggReqData)
      → slice_get old index ≡ found
      → option_map (λ (req : FilterAggReqData). req.is_top_level) found ≡ Some top
      → option_map (λ (req : FilterAggReqData). req.is_top_level) (slice_get new index) ≡ Some top
  told-stays index top None is told = absurd (none-some top told)
  told-stays index top (Some req) is told =
      ap (option_map (λ (r : FilterAggReqData). r.is_top_level)) (stays index req is) ∙ told

  -- what a node of a kind knows
  own-stays : (top : Bool) (k : AggKind) (index : ℕ) → KnowsOwn top old k index
      → KnowsOwn top new k index
  own-stays top kind.Filter index told = told-stays index top (slice_get old index) refl told
  own-stays top (kind.StatsKind computed) index told = told
  own-stays top kind.Composite index told = told

  -- what nodes know
  mutual
    knows-stays : (top : Bool) (plan : Plan) → KnowsTop top old plan → KnowsTop top new plan
    knows-stays top (Plan.node k index below) told =
        (own-stays top k index told.0, know-stays false below told.1)

    know-stays : (top : Bool) (plans : Plans) → KnowTop top old plans → KnowTop top new plans
    know-stays top Plans.none told = told
    know-stays top (Plans.more plan plans) told =
        (knows-stays top plan told.0, know-stays top plans told.1)

  -- a node, and then those below it
  pub node-knows : (top : Bool) (k : AggKind) (index : ℕ) (children : List AggRefNode)
      → KnowsOwn top old k index → KnowTop false new (plans_of (map plan_of children))
      → KnowsTop top new (plan_of
      (roll-AggRefNode (record { kind = k; idx_in_req_data = index; children = children })))
  node-knows top k index children own below =
      subst (λ (plan : Plan). KnowsTop top new plan) (sym (plan-rolled k index children))
      (own-stays top k index own, below)

  -- one node after others
  know-more : (top : Bool) (plans : List Plan) (plan : Plan) → KnowTop top new (plans_of plans)
      → KnowsTop top new plan → KnowTop top new (plans_of (plans ++ plan ∷ []))
  know-more top [] plan told next = (next, told)
  know-more top (p ∷ plans) plan told next = (told.0, know-more top plans plan told.1 next)

  pub nodes-know : (top : Bool) (nodes : List AggRefNode) (node : AggRefNode)
      (more : List AggRefNode) → more ≡ nodes ++ node ∷ []
      → KnowTop top old (plans_of (map plan_of nodes)) → KnowsTop top new (plan_of node)
      → KnowTop top new (plans_of (map plan_of more))
  nodes-know top nodes node more pushed told next =
      subst (λ (ps : List Plan). KnowTop top new (plans_of ps))
      (sym (ap (map plan_of) pushed ∙ map-append plan_of nodes (node ∷ [])))
      (know-more top (map plan_of nodes) (plan_of node)
      (know-stays top (plans_of (map plan_of nodes)) told) next)
