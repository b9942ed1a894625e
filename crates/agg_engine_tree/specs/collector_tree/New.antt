-- New collectors, and the tree of them.
use Rattle.std.specs.Prelude.{◌≡◌, ◌≤◌, ℕ, [], Bool, Some, ⊤, not, slice_get}
use Rattle.agg_segment.specs.Segment.{Stored}
use Rattle.agg_composite.specs.declared.accessor.request_data.CompositeAggReqData.{
  CompositeAggReqData,
}
use Rattle.agg_composite.specs.Composite.{Composite, CompositeFor}
use Rattle.agg_filter.specs.declared.request_data.FilterAggReqData.{FilterAggReqData}
use Rattle.agg_metric.specs.declared.request_data.MetricAggReqData.{MetricAggReqData}
use Rattle.agg_engine_tree.specs.segment_context.Context.{HasFewSources, IsMeant, Meaning}
use Rattle.agg_engine_tree.specs.segment_context.Plan.{Plan, Plans}
use Rattle.agg_engine_tree.specs.declared.segment_context.context.PerRequestAggSegCtx.{
  PerRequestAggSegCtx,
}
use Rattle.agg_engine_tree.specs.declared.segment_context.node.AggKind.TheVariants as kind
use Rattle.agg_engine_tree.specs.collector_tree.Caches.{Cache, waiting_in}
use Rattle.agg_engine_tree.specs.collector_tree.Tree.{Fits, Held, IsFlushed, IsFor}

-- a composite's collector that visited nothing, with room for tuples of so many sources
pub record IsNewComposite (is_leaf : Bool) (num_sources : ℕ) (collector : Composite Cache)
    : Type 0 where
  pub empty : (req : CompositeAggReqData) → CompositeFor waiting_in req collector [] []
  pub room : num_sources ≤ collector.room
  pub waiting : (id : ℕ) → waiting_in collector.cache.0 id ≡ []
  pub hands_on : collector.hands_on ≡ not is_leaf

module _ (ctx : PerRequestAggSegCtx) where
  -- each node of a tree has its data
  abbrev mutual
    pub HasData : Plan → Type 0
    HasData (Plan.node kind.Composite index below) =
        ((req : CompositeAggReqData) × (slice_get ctx.composite_req_data index ≡ Some req)
        × HasFewSources req.req.now.sources)
        × HaveData below
    HasData (Plan.node kind.Filter index below) =
        ((req : FilterAggReqData) × (slice_get ctx.filter_req_data index ≡ Some req))
        × HaveData below
    HasData (Plan.node (kind.StatsKind computed) index below) =
        (req : MetricAggReqData) × (slice_get ctx.stats_metric_req_data index ≡ Some req)

    pub HaveData : Plans → Type 0
    HaveData Plans.none = ⊤
    HaveData (Plans.more plan plans) = HasData plan × HaveData plans

  -- a tree has its data, took no document of a segment, and nothing waits in it
  pub record IsNew (segment : Stored) (held : Held) : Type 0 where
    pub fits : Fits ctx held
    pub right : (meaning : Meaning) → meaning.segment ≡ segment → IsMeant meaning ctx
        → IsFor meaning ctx held [] 0
    pub flushed : IsFlushed held
