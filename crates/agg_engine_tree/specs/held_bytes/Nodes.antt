-- Nodes of a context, and what a request asks of them.
use Rattle.std.specs.Prelude.{ℕ, List, map}
use Rattle.agg_segment.specs.declared.query.QueryTree.{QueryTree}
use Rattle.agg_request_tree.specs.Request.{Request}
use Rattle.agg_request_tree.specs.declared.aggregation.AggregationVariants.{AggregationVariants}
use Rattle.agg_engine_tree.specs.segment_context.Context.{ArePlansOf, IsAskedAt, IsMeant, Meaning}
use Rattle.agg_engine_tree.specs.segment_context.Plan.{plan_of, plans_of}
use Rattle.agg_engine_tree.specs.declared.segment_context.context.PerRequestAggSegCtx.{
  PerRequestAggSegCtx,
}
use Rattle.agg_engine_tree.specs.declared.segment_context.node.AggKind.{AggKind}
use Rattle.agg_engine_tree.specs.declared.segment_context.node.AggRefNode.{AggRefNode}

-- nodes are those of a request in a context, whose data has its meaning
pub record AreNodesOf (meaning : Meaning) (ctx : PerRequestAggSegCtx) (request : Request QueryTree)
    (nodes : List AggRefNode) : Type 0 where
  pub meant : IsMeant meaning ctx
  pub asked : ArePlansOf meaning ctx request (plans_of (map plan_of nodes))

-- a node of a kind, with its data at an index, is that of what an aggregation asks in a context,
-- whose data has its meaning
pub record IsNodeFor (meaning : Meaning) (ctx : PerRequestAggSegCtx)
    (asked : AggregationVariants QueryTree) (kind : AggKind) (index : ℕ) : Type 0 where
  pub meant : IsMeant meaning ctx
  pub name : List ℕ
  pub data_at : IsAskedAt meaning ctx name asked kind index
