-- The tree of a request's aggregations as plain data, over which relations may go down.
use Rattle.std.specs.Prelude.{ℕ, List, [], ◌∷◌}
use Rattle.agg_engine_tree.specs.declared.segment_context.node.AggKind.{AggKind}
use Rattle.agg_engine_tree.specs.declared.segment_context.node.AggRefNode.{AggRefNode}
use Rattle.agg_engine_tree.specs.declared.segment_context.node.AggRefNode.TheOpen.{AggRefNode-F}
use Rattle.agg_engine_tree.specs.declared.segment_context.node.AggRefNode.TheFolds.{fold-AggRefNode}

-- a node: its kind, its index in the data of that kind, and the nodes below it
mutual
  pub data Plan : Type 0 where
    node : AggKind → ℕ → Plans → Plan

  pub data Plans : Type 0 where
    none : Plans
    more : Plan → Plans → Plans

-- a list of nodes
abbrev pub plans_of : List Plan → Plans
plans_of [] = Plans.none
plans_of (plan ∷ plans) = Plans.more plan (plans_of plans)

-- one level of a tree
abbrev pub plan_step : AggRefNode-F Plan → Plan
plan_step n = Plan.node n.kind n.idx_in_req_data (plans_of n.children)

-- a tree as plain data
abbrev pub plan_of : AggRefNode → Plan
plan_of = fold-AggRefNode Plan plan_step
