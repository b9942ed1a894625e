-- The aggregation of which a tree's node is, and its name.
use Rattle.std.proofs.Common.{◌≡◌, ℕ, List, [], ◌∷◌, ◌++◌, refl, ap, ◌∙◌, subst, Some}
use Rattle.std.specs.Prelude.{slice_get}
use Rattle.std.specs.Map.{keys_of}
use Rattle.std.specs.Option.{option_map_or}
use Rattle.agg_segment.specs.declared.query.QueryTree.{QueryTree}
use Rattle.agg_request_tree.specs.Request.{Request, agg_of, below_of}
use Rattle.agg_request_tree.specs.declared.aggregation.Aggregation.{Aggregation}
use Rattle.agg_request_tree.specs.declared.aggregation.AggregationVariants.{AggregationVariants}
use Rattle.agg_request_tree.specs.declared.aggregation.AggregationVariants.TheVariants as asks
use Rattle.agg_request_tree.specs.declared.aggregation.CompositeAggregation.{CompositeAggregation}
use Rattle.agg_request_tree.specs.declared.aggregation.filter.FilterQuery.{FilterQuery}
use Rattle.agg_composite.specs.declared.accessor.request_data.CompositeAggReqData.{
  CompositeAggReqData,
}
use Rattle.agg_composite.specs.Composite.{Composite}
use Rattle.agg_filter.specs.Filter.{Filter}
use Rattle.agg_filter.specs.declared.request_data.FilterAggReqData.{FilterAggReqData}
use Rattle.agg_metric.specs.Collector.{Metric}
use Rattle.agg_metric.specs.declared.request_data.MetricAggReqData.{MetricAggReqData}
use Rattle.agg_metric.specs.declared.request_data.StatsType.{StatsType}
use Rattle.agg_metric.specs.declared.request_data.StatsType.TheVariants as stats
use Rattle.agg_engine_tree.specs.segment_context.Context.{ArePlansOf, IsAskedAt, IsCompositeAt}
use Rattle.agg_engine_tree.specs.segment_context.Context.{IsFilterAt, IsMetricAt, IsPlanOf, Meaning}
use Rattle.agg_engine_tree.specs.segment_context.Plan.{Plan, Plans}
use Rattle.agg_engine_tree.specs.declared.segment_context.context.PerRequestAggSegCtx.{
  PerRequestAggSegCtx,
}
use Rattle.agg_engine_tree.specs.declared.segment_context.node.AggKind.TheVariants as kind
use Rattle.agg_engine_tree.specs.collector_tree.Caches.{Cache}
use Rattle.agg_engine_tree.specs.collector_tree.Tree.{AreOf, Held, Helds, IsGroupOf, IsOf}
use Rattle.agg_engine_tree.specs.tree_results.Names.{composite_name, filter_name, metric_name}
use Rattle.agg_engine_tree.specs.tree_results.Names.{names_in, names_of}

module _ (meaning : Meaning) (ctx : PerRequestAggSegCtx) where
  -- an aggregation is a composite at an index, a filter or a metric, with those below it
  pub record IsCompositeOf (name : List ℕ) (a : Aggregation QueryTree) (index : ℕ) (h : Held)
      : Type 0 where
    pub asked : CompositeAggregation
    pub plans : Plans
    pub agg_is : agg_of a ≡ asks.Composite asked
    pub at : IsCompositeAt meaning ctx name asked index
    pub below : ArePlansOf meaning ctx (below_of a) plans
    pub group : IsGroupOf plans h

  pub record IsFilterOf (name : List ℕ) (a : Aggregation QueryTree) (index : ℕ) (h : Held)
      : Type 0 where
    pub query : FilterQuery QueryTree
    pub plans : Plans
    pub agg_is : agg_of a ≡ asks.Filter (record { query = query })
    pub at : IsFilterAt meaning ctx name query index
    pub below : ArePlansOf meaning ctx (below_of a) plans
    pub group : IsGroupOf plans h

  composite-by : (name : List ℕ) (a : Aggregation QueryTree) (v : AggregationVariants QueryTree)
      (index : ℕ) (plans : Plans) (h : Held) → agg_of a ≡ v
      → IsAskedAt meaning ctx name v kind.Composite index
      → ArePlansOf meaning ctx (below_of a) plans
      → IsGroupOf plans h → IsCompositeOf name a index h
  composite-by name a (asks.Composite asked) index plans h is at below group = record {
    asked = asked;
    plans = plans;
    agg_is = is;
    at = at;
    below = below;
    group = group;
  }
  composite-by name a (asks.Filter v) index plans h is at below group = absurd at
  composite-by name a (asks.Count v) index plans h is at below group = absurd at
  composite-by name a (asks.Max v) index plans h is at below group = absurd at
  composite-by name a (asks.Min v) index plans h is at below group = absurd at
  composite-by name a (asks.Sum v) index plans h is at below group = absurd at

  -- that of a composite's node is a composite
  pub composite-node : (name : List ℕ) (a : Aggregation QueryTree) (plan : Plan) (index : ℕ)
      (collector : Composite Cache) (h : Held) → IsPlanOf meaning ctx name a plan
      → IsOf plan (Held.composite index collector h) → IsCompositeOf name a index h
  composite-node name a (Plan.node kind.Composite i plans) index collector h asked is =
      composite-by name a (agg_of a) index plans h refl
      (subst (IsAskedAt meaning ctx name (agg_of a) kind.Composite) is.0 asked.0) asked.1 is.1
  composite-node name a (Plan.node kind.Filter i plans) index collector h asked is = absurd is
  composite-node name a (Plan.node (kind.StatsKind computed) i plans) index collector h asked is =
      absurd is

  filter-by : (name : List ℕ) (a : Aggregation QueryTree) (v : AggregationVariants QueryTree)
      (index : ℕ) (plans : Plans) (h : Held) → agg_of a ≡ v
      → IsAskedAt meaning ctx name v kind.Filter index → ArePlansOf meaning ctx (below_of a) plans
      → IsGroupOf plans h → IsFilterOf name a index h
  filter-by name a (asks.Filter asked) index plans h is at below group = record {
    query = asked.query;
    plans = plans;
    agg_is = is;
    at = at;
    below = below;
    group = group;
  }
  filter-by name a (asks.Composite v) index plans h is at below group = absurd at
  filter-by name a (asks.Count v) index plans h is at below group = absurd at
  filter-by name a (asks.Max v) index plans h is at below group = absurd at
  filter-by name a (asks.Min v) index plans h is at below group = absurd at
  filter-by name a (asks.Sum v) index plans h is at below group = absurd at

  -- that of a filter's node is a filter
  pub filter-node : (name : List ℕ) (a : Aggregation QueryTree) (plan : Plan) (index : ℕ)
      (collector : Filter Cache) (h : Held) → IsPlanOf meaning ctx name a plan
      → IsOf plan (Held.filter index collector h) → IsFilterOf name a index h
  filter-node name a (Plan.node kind.Filter i plans) index collector h asked is =
      filter-by name a (agg_of a) index plans h refl
      (subst (IsAskedAt meaning ctx name (agg_of a) kind.Filter) is.0 asked.0) asked.1 is.1
  filter-node name a (Plan.node kind.Composite i plans) index collector h asked is = absurd is
  filter-node name a (Plan.node (kind.StatsKind computed) i plans) index collector h asked is =
      absurd is

  -- that of a metric's node is asked what is computed
  pub metric-node : (name : List ℕ) (a : Aggregation QueryTree) (plan : Plan) (index : ℕ)
      (collector : Metric) → IsPlanOf meaning ctx name a plan
      → IsOf plan (Held.metric index collector)
      → (computed : StatsType)
      × IsAskedAt meaning ctx name (agg_of a) (kind.StatsKind computed) index
  metric-node name a (Plan.node (kind.StatsKind computed) i plans) index collector asked is =
      (computed, subst (IsAskedAt meaning ctx name (agg_of a) (kind.StatsKind computed)) is asked.0)
  metric-node name a (Plan.node kind.Composite i plans) index collector asked is = absurd is
  metric-node name a (Plan.node kind.Filter i plans) index collector asked is = absurd is

  -- ---- names

  metric-named : (name : List ℕ) (v : AggregationVariants QueryTree) (computed : StatsType)
      (index : ℕ) → IsAskedAt meaning ctx name v (kind.StatsKind computed) index
      → (field : List ℕ) × IsMetricAt meaning ctx name computed field index
  metric-named name (asks.Count a) stats.Count index at = (a.field, at)
  metric-named name (asks.Max a) stats.Max index at = (a.field, at)
  metric-named name (asks.Min a) stats.Min index at = (a.field, at)
  metric-named name (asks.Sum a) stats.Sum index at = (a.field, at)
  metric-named name (asks.Count a) stats.Max index at = absurd at
  metric-named name (asks.Count a) stats.Min index at = absurd at
  metric-named name (asks.Count a) stats.Sum index at = absurd at
  metric-named name (asks.Max a) stats.Count index at = absurd at
  metric-named name (asks.Max a) stats.Min index at = absurd at
  metric-named name (asks.Max a) stats.Sum index at = absurd at
  metric-named name (asks.Min a) stats.Count index at = absurd at
  metric-named name (asks.Min a) stats.Max index at = absurd at
  metric-named name (asks.Min a) stats.Sum index at = absurd at
  metric-named name (asks.Sum a) stats.Count index at = absurd at
  metric-named name (asks.Sum a) stats.Max index at = absurd at
  metric-named name (asks.Sum a) stats.Min index at = absurd at
  metric-named name (asks.Filter a) computed index at = absurd at
  metric-named name (asks.Composite a) computed index at = absurd at

  -- the name in the data at an index
  pub composite_name-at : (index : ℕ) (req : CompositeAggReqData)
      → slice_get ctx.composite_req_data index ≡ Some req → composite_name ctx index ≡ req.name
  composite_name-at index req found =
      ap (λ r. option_map_or (λ (req : CompositeAggReqData). req.name) r []) found

  pub filter_name-at : (index : ℕ) (req : FilterAggReqData)
      → slice_get ctx.filter_req_data index ≡ Some req → filter_name ctx index ≡ req.name
  filter_name-at index req found =
      ap (λ r. option_map_or (λ (req : FilterAggReqData). req.name) r []) found

  pub metric_name-at : (index : ℕ) (req : MetricAggReqData)
      → slice_get ctx.stats_metric_req_data index ≡ Some req → metric_name ctx index ≡ req.name
  metric_name-at index req found =
      ap (λ r. option_map_or (λ (req : MetricAggReqData). req.name) r []) found

  -- a node has the name of its aggregation
  pub names-own : (name : List ℕ) (a : Aggregation QueryTree) (plan : Plan) (h : Held)
      → IsPlanOf meaning ctx name a plan → IsOf plan h → names_of ctx h ≡ name ∷ []
  names-own name a plan (Held.composite index collector h) asked is =
      let at = (composite-node name a plan index collector h asked is).at in
      ap (λ n. n ∷ []) (composite_name-at index at.0 at.1 ∙ at.2)
  names-own name a plan (Held.filter index collector h) asked is =
      let at = (filter-node name a plan index collector h asked is).at in
      ap (λ n. n ∷ []) (filter_name-at index at.0 at.1 ∙ at.2)
  names-own name a plan (Held.metric index collector) asked is =
      let node = metric-node name a plan index collector asked is in
      let at = (metric-named name (agg_of a) node.0 index node.1).1 in
      ap (λ n. n ∷ []) (metric_name-at index at.0 at.1 ∙ at.2)
  names-own name a plan (Held.group hs) asked is = absurd (no_group plan is)
    where
      no_group : (plan : Plan) → IsOf plan (Held.group hs) → ⊥
      no_group (Plan.node kind.Composite i plans) is = is
      no_group (Plan.node kind.Filter i plans) is = is
      no_group (Plan.node (kind.StatsKind computed) i plans) is = is

  -- nodes side by side have the names of their request
  pub names-asked : (request : Request QueryTree) (plans : Plans) (hs : Helds)
      → ArePlansOf meaning ctx request plans → AreOf plans hs → names_in ctx hs ≡ keys_of request
  names-asked [] Plans.none Helds.none asked are = refl
  names-asked [] Plans.none (Helds.more h hs) asked are = absurd are
  names-asked [] (Plans.more plan plans) hs asked are = absurd asked
  names-asked (a ∷ request) Plans.none hs asked are = absurd asked
  names-asked (a ∷ request) (Plans.more plan plans) Helds.none asked are = absurd are
  names-asked (a ∷ request) (Plans.more plan plans) (Helds.more h hs) asked are =
      λ i. names-own a.0 a.1 plan h asked.0 are.0 i ++ names-asked request plans hs asked.1 are.1 i
