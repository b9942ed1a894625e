-- The data that aggregations add to a context.
use Rattle.std.specs.Prelude.{◌≡◌, ◌+◌, ◌++◌, ℕ, List, [], ◌∷◌, Option, None, Some, All, ⊤}
use Rattle.std.specs.Prelude.{if◌then◌else◌, length, map, option_map}
use Rattle.std.specs.Prelude.{slice_get}
use Rattle.std.specs.BTreeMap.{is_at}
use Rattle.agg_values.specs.Names.{Named, name_cmp}
use Rattle.agg_values.specs.declared.after_key.AfterKey.{AfterKey}
use Rattle.agg_segment.specs.Marks.{AreMarks}
use Rattle.agg_segment.specs.Query.{matches}
use Rattle.agg_segment.specs.Segment.{Stored}
use Rattle.agg_segment.specs.declared.query.QueryTree.{QueryTree}
use Rattle.agg_request_tree.specs.Faults.{IsSound}
use Rattle.agg_request_tree.specs.Request.{Request, agg_of, aggregation_of, below_of}
use Rattle.agg_request_tree.specs.Request.{composites_in, composites_of, listed_in, own_composite}
use Rattle.agg_request_tree.specs.Request.{with_builders, with_builders_in, with_own_builder}
use Rattle.agg_request_tree.specs.declared.aggregation.Aggregation.{Aggregation}
use Rattle.agg_request_tree.specs.declared.aggregation.AggregationVariants as variants
use variants.{AggregationVariants}
use variants.TheVariants.{Composite}
use Rattle.agg_request_tree.specs.declared.aggregation.CompositeAggregation.{CompositeAggregation}
use Rattle.agg_composite.specs.accessor.Accessors.{Fits}
use Rattle.agg_composite.specs.declared.accessor.request_data.CompositeAggReqData.{
  CompositeAggReqData,
}
use Rattle.agg_filter.specs.declared.request_data.FilterAggReqData.{FilterAggReqData}
use Rattle.agg_metric.specs.declared.request_data.MetricAggReqData.{MetricAggReqData}
use Rattle.agg_metric.specs.declared.request_data.StatsType.{StatsType}
use Rattle.agg_engine_tree.specs.segment_context.Context.{ArePlansOf, IsAskedAt, IsMeant, IsPlanOf}
use Rattle.agg_engine_tree.specs.segment_context.Context.{Meaning}
use Rattle.agg_engine_tree.specs.segment_context.Plan.{plan_of, plans_of}
use Rattle.agg_engine_tree.specs.segment_context.Trees.{own_tree, trees_of}
use Rattle.agg_engine_tree.specs.declared.segment_context.context.PerRequestAggSegCtx.{
  PerRequestAggSegCtx,
}
use Rattle.agg_engine_tree.specs.declared.segment_context.node.AggKind.{AggKind}
use Rattle.agg_engine_tree.specs.declared.segment_context.node.AggRefNode.{AggRefNode}
use Rattle.agg_engine_tree.specs.declared.segment_context.params.Page.{Page}
use Rattle.agg_engine_tree.specs.declared.segment_context.segment.origin.Origin.{Origin}

-- ---- the page of a level

-- a composite of a name, with the page that is set, if it is of that name
abbrev pub paged_composite : Option Page → List ℕ → CompositeAggregation → CompositeAggregation
paged_composite None name composite = composite
paged_composite (Some page) name composite =
    if is_at (name_cmp page.name) name
    then record composite { size = page.size; after = page.after } else composite

-- what an aggregation of a name asks, with the page that is set
abbrev pub paged_agg : {B : Type 0} → Option Page → List ℕ → AggregationVariants B
    → AggregationVariants B
paged_agg page name (Composite composite) = Composite (paged_composite page name composite)
paged_agg page name other = other

-- an aggregation of a name, with the page that is set
abbrev pub paged_in : {B : Type 0} → Option Page → List ℕ → Aggregation B → Aggregation B
paged_in page name a = aggregation_of (paged_agg page name (agg_of a)) (below_of a)

-- the aggregations of a level, with the page that is set
abbrev pub paged_each : {B : Type 0} → Option Page → Request B → Request B
paged_each page request = map (λ a. (a.0, paged_in page a.0 a.1)) request

-- the page that is set for a level
abbrev pub page_of : Origin → Option Page
page_of from = option_map (λ page. page.now) from.page

-- ---- what stands in a context

-- what stands at an index of a list stands there in another
abbrev pub StaysIn : {X : Type 0} → List X → List X → Type 0
StaysIn {X = X} old new = (i : ℕ) (x : X) → slice_get old i ≡ Some x → slice_get new i ≡ Some x

-- all data of a context is kept where it stands
pub record KeepsData (old new : PerRequestAggSegCtx) : Type 0 where
  pub filters : StaysIn old.filter_req_data new.filter_req_data
  pub metrics : StaysIn old.stats_metric_req_data new.stats_metric_req_data
  pub composites : StaysIn old.composite_req_data new.composite_req_data

-- from an index on, these are given
abbrev pub GivesFrom : {X : Type 0} → (ℕ → X) → ℕ → List X → Type 0
GivesFrom give index [] = ⊤
GivesFrom give index (x ∷ xs) = (give index ≡ x) × GivesFrom give (index + 1) xs

-- the trees after those of a context's filters are these
abbrev pub TreesFollow : Origin → PerRequestAggSegCtx → List QueryTree → Type 0
TreesFollow from ctx trees =
    GivesFrom (slice_get from.trees.now) (length ctx.filter_req_data) (map Some trees)

-- the after keys of composites
abbrev pub afters_of : List CompositeAggregation → List (Named AfterKey)
afters_of composites = map (λ composite. composite.after) composites

-- data was added after that of a context, of filters with these trees and of composites with these
-- after keys, and more is so of the context now: with a meaning that gives them
pub record AddsData (segment : Stored) (trees : List QueryTree) (afters : List (Named AfterKey))
    (IsSo : Meaning → PerRequestAggSegCtx → Type 0) (old new : PerRequestAggSegCtx) : Type 0 where
  pub kept : KeepsData old new
  pub filters : length new.filter_req_data ≡ length old.filter_req_data + length trees
  pub composites : length new.composite_req_data ≡ length old.composite_req_data + length afters
  pub told : (meaning : Meaning) → meaning.segment ≡ segment
      → GivesFrom meaning.query_at (length old.filter_req_data) trees
      → GivesFrom meaning.after_at (length old.composite_req_data) afters
      → IsMeant meaning old → IsMeant meaning new × IsSo meaning new

-- ---- the data of one aggregation

-- the data of a filter of a name, by the tree at an index, is appended
abbrev pub AppendsFilter : Origin → List ℕ → ℕ → PerRequestAggSegCtx → PerRequestAggSegCtx → Type 0
AppendsFilter from name index old new =
    (req : FilterAggReqData)
    × (new ≡ record old { filter_req_data = old.filter_req_data ++ req ∷ [] })
    × (index ≡ length old.filter_req_data) × (req.name ≡ name)
    × (req.is_top_level ≡ from.is_top_level)
    × ((tree : QueryTree) → slice_get from.trees.now index ≡ Some tree
    → AreMarks (matches tree) from.reader.now req.evaluator)

-- the data of a metric of a name is appended
abbrev pub AppendsMetric : List ℕ → List ℕ → StatsType → ℕ → PerRequestAggSegCtx
    → PerRequestAggSegCtx → Type 0
AppendsMetric name field computed index old new =
    (req : MetricAggReqData)
    × (new ≡ record old { stats_metric_req_data = old.stats_metric_req_data ++ req ∷ [] })
    × (index ≡ length old.stats_metric_req_data) × (req.name ≡ name) × (req.field ≡ field)
    × (req.collecting_for ≡ computed)

-- the data of a composite of a name is appended
abbrev pub AppendsComposite : Origin → List ℕ → CompositeAggregation → ℕ → PerRequestAggSegCtx
    → PerRequestAggSegCtx → Type 0
AppendsComposite from name composite index old new =
    (req : CompositeAggReqData)
    × (new ≡ record old { composite_req_data = old.composite_req_data ++ req ∷ [] })
    × (index ≡ length old.composite_req_data) × (req.name ≡ name)
    × (req.req.now.sources ≡ composite.sources) × (req.size ≡ composite.size)
    × Fits from.reader.now composite.after req

-- ---- the data of aggregations

module _ {B : Type 0} (made : B → QueryTree) (from : Origin) where
  -- the data of what an aggregation of a name asks was added, at an index of a kind
  abbrev pub AddsOwn : List ℕ → AggregationVariants B → AggKind × ℕ → PerRequestAggSegCtx
      → PerRequestAggSegCtx → Type 0
  AddsOwn name agg place old new =
      AddsData from.reader.now (own_tree (with_own_builder made agg))
      (afters_of (own_composite (paged_agg (page_of from) name agg)))
      (λ meaning ctx. IsAskedAt meaning ctx name
      (paged_agg (page_of from) name (with_own_builder made agg)) place.0 place.1) old new

  -- the data of an aggregation of a name and of those below it was added
  abbrev pub AddsIn : List ℕ → Aggregation B → AggRefNode → PerRequestAggSegCtx
      → PerRequestAggSegCtx → Type 0
  AddsIn name a node old new =
      AddsData from.reader.now (listed_in own_tree (with_builders_in made a))
      (afters_of (composites_in (paged_in (page_of from) name a)))
      (λ meaning ctx. IsPlanOf meaning ctx name
      (paged_in (page_of from) name (with_builders_in made a)) (plan_of node)) old new

  -- the data of a request was added
  abbrev pub AddsRequest : Request B → List AggRefNode → PerRequestAggSegCtx
      → PerRequestAggSegCtx → Type 0
  AddsRequest request nodes old new =
      AddsData from.reader.now (trees_of (with_builders made request))
      (afters_of (composites_of (paged_each (page_of from) request)))
      (λ meaning ctx. ArePlansOf meaning ctx
      (paged_each (page_of from) (with_builders made request)) (plans_of (map plan_of nodes)))
      old new

-- ---- what the data of aggregations needs

module _ {B : Type 0} (from : Origin) (ctx : PerRequestAggSegCtx) where
  -- the tree of what an aggregation asks follows, and its composite has no fault
  pub record IsReadyForOwn (name : List ℕ) (agg : AggregationVariants B) : Type 0 where
    pub made : B → QueryTree
    pub trees : TreesFollow from ctx (own_tree (with_own_builder made agg))
    pub sound : All IsSound (own_composite (paged_agg (page_of from) name agg))

  -- the trees of an aggregation and those below it follow, and no composite of them has a fault
  pub record IsReadyIn (name : List ℕ) (a : Aggregation B) : Type 0 where
    pub made : B → QueryTree
    pub trees : TreesFollow from ctx (listed_in own_tree (with_builders_in made a))
    pub sound : All IsSound (composites_in (paged_in (page_of from) name a))

  -- the trees of a request follow, and no composite of it has a fault
  pub record IsReadyFor (request : Request B) : Type 0 where
    pub made : B → QueryTree
    pub trees : TreesFollow from ctx (trees_of (with_builders made request))
    pub sound : All IsSound (composites_of (paged_each (page_of from) request))
