-- A composite that stands alone in a segment.
use Rattle.std.specs.Prelude.{◌≡◌, ℕ, Some, length, map, slice_get}
use Rattle.agg_composite.specs.declared.accessor.request_data.CompositeAggReqData.{
  CompositeAggReqData,
}
use Rattle.agg_engine_tree.specs.segment_context.Plan.{Plan, Plans, plan_of, plans_of}
use Rattle.agg_engine_tree.specs.declared.segment_context.context.PerRequestAggSegCtx.{
  PerRequestAggSegCtx,
}
use Rattle.agg_engine_tree.specs.declared.segment_context.node.AggKind.TheVariants as kind

-- data is that of the only node of a context: a composite with nothing below it, and with one
-- source
pub record IsLone (ctx : PerRequestAggSegCtx) (req : CompositeAggReqData) : Type 0 where
  -- where the data stands
  pub index : ℕ
  -- the node is the only one
  pub node : plans_of (map plan_of ctx.agg_tree)
      ≡ Plans.more (Plan.node kind.Composite index Plans.none) Plans.none
  -- the data is that of the node
  pub at : slice_get ctx.composite_req_data index ≡ Some req
  -- the composite has one source
  pub one : length req.req.now.sources ≡ 1
