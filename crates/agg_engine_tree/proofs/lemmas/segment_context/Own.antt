-- The data of what one aggregation asks.
use Rattle.std.proofs.Common.{◌≡◌, ℕ, List, Result, Ok, Err, IfOk, arith, sym, subst}
use Rattle.std.specs.List.{All}
use Rattle.agg_segment.specs.declared.query.QueryTree.{QueryTree}
use Rattle.agg_request_tree.specs.Faults.{IsSound}
use Rattle.agg_request_tree.specs.Request.{own_composite, with_own_builder, with_query_builder}
use Rattle.agg_request_tree.specs.declared.aggregation.AggregationVariants as variants
use variants.{AggregationVariants}
use variants.TheVariants.{Filter, Composite, Count, Max, Min, Sum}
use Rattle.agg_request_tree.specs.declared.aggregation.CompositeAggregation.{CompositeAggregation}
use Rattle.agg_request_tree.specs.declared.aggregation.filter.FilterAggregation as filters
use filters.{FilterAggregation}
use Rattle.agg_metric.specs.declared.request_data.StatsType.{StatsType}
use Rattle.agg_metric.specs.declared.request_data.StatsType.TheVariants as stats
use Rattle.agg_engine_tree.specs.segment_context.Additions.{AddsOwn, AppendsComposite}
use Rattle.agg_engine_tree.specs.segment_context.Additions.{AppendsFilter, AppendsMetric}
use Rattle.agg_engine_tree.specs.segment_context.Additions.{TreesFollow, page_of, paged_agg}
use Rattle.agg_engine_tree.specs.segment_context.Additions.{paged_composite}
use Rattle.agg_engine_tree.specs.segment_context.Context.{tree_in}
use Rattle.agg_engine_tree.specs.segment_context.Trees.{own_tree}
use Rattle.agg_engine_tree.specs.declared.segment_context.context.PerRequestAggSegCtx.{
  PerRequestAggSegCtx,
}
use Rattle.agg_engine_tree.specs.declared.segment_context.error.SetupError.{SetupError}
use Rattle.agg_engine_tree.specs.declared.segment_context.node.AggKind.{AggKind}
use Rattle.agg_engine_tree.specs.declared.segment_context.node.AggKind.TheVariants as kind
use Rattle.agg_engine_tree.specs.declared.segment_context.segment.origin.Origin.{Origin}
use Rattle.agg_engine_tree.proofs.lemmas.segment_context.Additions.{adds-composite, adds-filter}
use Rattle.agg_engine_tree.proofs.lemmas.segment_context.Additions.{adds-metric}

-- a metric computes this of a field
abbrev pub IsStats : {B : Type 0} → AggregationVariants B → StatsType → List ℕ → Type 0
IsStats (Count metric) stats.Count field = field ≡ metric.field
IsStats (Max metric) stats.Max field = field ≡ metric.field
IsStats (Min metric) stats.Min field = field ≡ metric.field
IsStats (Sum metric) stats.Sum field = field ≡ metric.field
IsStats _ _ field = ⊥

module _ {B : Type 0} (from : Origin) (name : List ℕ) (agg : AggregationVariants B)
    (old new : PerRequestAggSegCtx) where
  -- what follows of trees, whatever builders made
  abbrev pub AddsAny : AggKind × ℕ → Type 0
  AddsAny place =
      (made : B → QueryTree) → TreesFollow from old (own_tree (with_own_builder made agg))
      → AddsOwn made from name agg place old new

  -- a composite is sound
  pub sound-own : (composite : CompositeAggregation) → agg ≡ Composite composite
      → All IsSound (own_composite (paged_agg (page_of from) name agg))
      → IsSound (paged_composite (page_of from) name composite)
  sound-own composite is sound =
      let all = subst (λ (x : AggregationVariants B).
      All IsSound (own_composite (paged_agg (page_of from) name x))) is sound in
      all 0 composite (omega arith)

  -- that of a composite
  pub own-composite : (composite : CompositeAggregation) (index : ℕ) → agg ≡ Composite composite
      → AppendsComposite from name (paged_composite (page_of from) name composite) index old new
      → All IsSound (own_composite (paged_agg (page_of from) name agg))
      → AddsAny (kind.Composite, index)
  own-composite composite index is appends sound made follows =
      subst (λ (x : AggregationVariants B). AddsOwn made from name x (kind.Composite, index) old
      new) (sym is)
      (adds-composite from name old (paged_composite (page_of from) name composite) index new
      appends (sound-own composite is sound))

  -- that of a filter
  pub own-filter : (filter : FilterAggregation B) (index : ℕ) → agg ≡ Filter filter
      → AppendsFilter from name index old new → AddsAny (kind.Filter, index)
  own-filter filter index is appends made =
      subst (λ (x : AggregationVariants B). TreesFollow from old
      (own_tree (with_own_builder made x))
      → AddsOwn made from name x (kind.Filter, index) old new) (sym is)
      (λ follows. adds-filter from name old (tree_in (with_query_builder made filter.query)) index
      new appends follows)

  -- that of a metric, at its kind
  stats-own : (made : B → QueryTree) (x : AggregationVariants B) (computed : StatsType)
      (field : List ℕ) (index : ℕ) → IsStats x computed field
      → AppendsMetric name field computed index old new
      → AddsOwn made from name x (kind.StatsKind computed, index) old new
  stats-own made (Count metric) stats.Count field index is appends =
      adds-metric from name old metric.field stats.Count index new
      (subst (λ (f : List ℕ). AppendsMetric name f stats.Count index old new) is appends)
  stats-own made (Max metric) stats.Max field index is appends =
      adds-metric from name old metric.field stats.Max index new
      (subst (λ (f : List ℕ). AppendsMetric name f stats.Max index old new) is appends)
  stats-own made (Min metric) stats.Min field index is appends =
      adds-metric from name old metric.field stats.Min index new
      (subst (λ (f : List ℕ). AppendsMetric name f stats.Min index old new) is appends)
  stats-own made (Sum metric) stats.Sum field index is appends =
      adds-metric from name old metric.field stats.Sum index new
      (subst (λ (f : List ℕ). AppendsMetric name f stats.Sum index old new) is appends)
  stats-own made _ _ field index is appends = absurd is

  -- that of a metric
  pub own-metric : (computed : StatsType) (field : List ℕ)
      (result : Result (AggKind × ℕ) SetupError) → IsStats agg computed field
      → IfOk result (λ place. place.0 ≡ kind.StatsKind computed)
      → IfOk result (λ place. AppendsMetric name field computed place.1 old new)
      → IfOk result AddsAny
  own-metric computed field (Err e) is of appends = tt
  own-metric computed field (Ok place) is of appends = λ made follows.
      subst (λ (k : AggKind). AddsOwn made from name agg (k, place.1) old new) (sym of)
      (stats-own made agg computed field place.1 is appends)
