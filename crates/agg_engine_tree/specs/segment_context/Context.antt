-- What the data of a context means, and of which request it is.
use Rattle.std.specs.Prelude.{◌≡◌, ◌≢◌, ◌≤◌, ℕ, List, [], ◌∷◌, Some, ⊤, length, map, slice_get}
use Rattle.agg_values.specs.Names.{Named}
use Rattle.agg_values.specs.declared.after_key.AfterKey.{AfterKey}
use Rattle.agg_segment.specs.Marks.{AreMarks}
use Rattle.agg_segment.specs.Query.{matches}
use Rattle.agg_segment.specs.Segment.{Stored}
use Rattle.agg_segment.specs.declared.query.QueryTree.{QueryTree}
use Rattle.agg_request_tree.specs.Faults.{max_sources}
use Rattle.agg_request_tree.specs.Request.{Request, agg_of, below_of}
use Rattle.agg_request_tree.specs.Source.{Sources}
use Rattle.agg_request_tree.specs.declared.aggregation.Aggregation.{Aggregation}
use Rattle.agg_request_tree.specs.declared.aggregation.AggregationVariants.{AggregationVariants}
use Rattle.agg_request_tree.specs.declared.aggregation.AggregationVariants.TheVariants as asks
use Rattle.agg_request_tree.specs.declared.aggregation.CompositeAggregation.{CompositeAggregation}
use Rattle.agg_request_tree.specs.declared.aggregation.filter.FilterQuery.{FilterQuery}
use Rattle.agg_request_tree.specs.declared.aggregation.filter.FilterQuery.TheVariants as by
use Rattle.agg_composite.specs.accessor.Accessors.{Fits}
use Rattle.agg_composite.specs.declared.accessor.request_data.CompositeAggReqData.{
  CompositeAggReqData,
}
use Rattle.agg_filter.specs.declared.request_data.FilterAggReqData.{FilterAggReqData}
use Rattle.agg_metric.specs.declared.request_data.MetricAggReqData.{MetricAggReqData}
use Rattle.agg_metric.specs.declared.request_data.StatsType.{StatsType}
use Rattle.agg_metric.specs.declared.request_data.StatsType.TheVariants as stats
use Rattle.agg_engine_tree.specs.segment_context.Plan.{Plan, Plans, plan_of, plans_of}
use Rattle.agg_engine_tree.specs.declared.segment_context.context.PerRequestAggSegCtx.{
  PerRequestAggSegCtx,
}
use Rattle.agg_engine_tree.specs.declared.segment_context.node.AggKind.{AggKind}
use Rattle.agg_engine_tree.specs.declared.segment_context.node.AggKind.TheVariants as kind

-- ---- what data means

-- where the data of a context comes from: a segment, and by index the after key of a composite and
-- the query of a filter
pub record Meaning : Type 0 where
  pub segment : Stored
  pub after_at : ℕ → Named AfterKey
  pub query_at : ℕ → QueryTree

-- a composite may have so many sources
abbrev pub HasFewSources : Sources → Type 0
HasFewSources sources = (1 ≤ length sources) × (length sources ≤ max_sources)

-- the data of a composite: accessors in the segment, for its after key
pub record IsCompositeMeant (meaning : Meaning) (index : ℕ) (req : CompositeAggReqData)
    : Type 0 where
  pub fits : Fits meaning.segment (meaning.after_at index) req
  pub sources : HasFewSources req.req.now.sources
  pub room : req.size ≢ 0

-- the data of a filter: the documents of the segment that its query matches
abbrev pub IsFilterMeant : Meaning → ℕ → FilterAggReqData → Type 0
IsFilterMeant meaning index req =
    AreMarks (matches (meaning.query_at index)) meaning.segment req.evaluator

-- all data of a context has its meaning
pub record IsMeant (meaning : Meaning) (ctx : PerRequestAggSegCtx) : Type 0 where
  pub composites : (index : ℕ) (req : CompositeAggReqData)
      → slice_get ctx.composite_req_data index ≡ Some req → IsCompositeMeant meaning index req
  pub filters : (index : ℕ) (req : FilterAggReqData)
      → slice_get ctx.filter_req_data index ≡ Some req → IsFilterMeant meaning index req

-- ---- of which request it is

-- the tree of a filter's query: its own, or the one that its builder made
abbrev pub tree_in : FilterQuery QueryTree → QueryTree
tree_in (by.Tree tree) = tree
tree_in (by.CustomBuilder tree) = tree

module _ (meaning : Meaning) (ctx : PerRequestAggSegCtx) where
  -- at an index stands the data of a composite of a name: it has the composite's sources, size and
  -- after key
  abbrev pub IsCompositeAt : List ℕ → CompositeAggregation → ℕ → Type 0
  IsCompositeAt name asked index =
      (req : CompositeAggReqData) × (slice_get ctx.composite_req_data index ≡ Some req)
      × (req.name ≡ name) × (req.req.now.sources ≡ asked.sources) × (req.size ≡ asked.size)
      × (meaning.after_at index ≡ asked.after)

  -- at an index stands the data of a filter of a name, by this query
  abbrev pub IsFilterAt : List ℕ → FilterQuery QueryTree → ℕ → Type 0
  IsFilterAt name query index =
      (req : FilterAggReqData) × (slice_get ctx.filter_req_data index ≡ Some req)
      × (req.name ≡ name) × (meaning.query_at index ≡ tree_in query)

  -- at an index stands the data of a metric of a name, which computes this of a field
  abbrev pub IsMetricAt : List ℕ → StatsType → List ℕ → ℕ → Type 0
  IsMetricAt name computed field index =
      (req : MetricAggReqData) × (slice_get ctx.stats_metric_req_data index ≡ Some req)
      × (req.name ≡ name) × (req.field ≡ field) × (req.collecting_for ≡ computed)

  -- a node is that of an aggregation of a name: of its kind, with its data at the index
  abbrev pub IsAskedAt : List ℕ → AggregationVariants QueryTree → AggKind → ℕ → Type 0
  IsAskedAt name (asks.Composite a) kind.Composite index = IsCompositeAt name a index
  IsAskedAt name (asks.Filter a) kind.Filter index = IsFilterAt name a.query index
  IsAskedAt name (asks.Count a) (kind.StatsKind stats.Count) index =
      IsMetricAt name stats.Count a.field index
  IsAskedAt name (asks.Max a) (kind.StatsKind stats.Max) index =
      IsMetricAt name stats.Max a.field index
  IsAskedAt name (asks.Min a) (kind.StatsKind stats.Min) index =
      IsMetricAt name stats.Min a.field index
  IsAskedAt name (asks.Sum a) (kind.StatsKind stats.Sum) index =
      IsMetricAt name stats.Sum a.field index
  IsAskedAt name _ _ index = ⊥

  -- a tree is that of the aggregations of a request, at any depth, in the order of their names
  abbrev mutual
    pub IsPlanOf : List ℕ → Aggregation QueryTree → Plan → Type 0
    IsPlanOf name a (Plan.node kind index below) =
        IsAskedAt name (agg_of a) kind index × ArePlansOf (below_of a) below

    pub ArePlansOf : Request QueryTree → Plans → Type 0
    ArePlansOf [] Plans.none = ⊤
    ArePlansOf (a ∷ request) (Plans.more plan plans) =
        IsPlanOf a.0 a.1 plan × ArePlansOf request plans
    ArePlansOf _ _ = ⊥

  -- a context is that of a request in a segment; the trees of its builders stand in their place
  pub record IsContextOf (request : Request QueryTree) : Type 0 where
    pub meant : IsMeant meaning ctx
    pub tree : ArePlansOf request (plans_of (map plan_of ctx.agg_tree))
