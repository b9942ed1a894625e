-- The result of a metric's node.
use Rattle.std.proofs.Common.{◌≡◌, ℕ, zero, suc, List, Option, Some, refl, sym, ◌∙◌, subst}
use Rattle.std.specs.Prelude.{slice_get}
use Rattle.std.proofs.lemmas.Option.{same_Some}
use Rattle.agg_segment.specs.storage.Document.{Fields}
use Rattle.agg_segment.specs.Query.{matches}
use Rattle.agg_segment.specs.Segment.{Stored, documents_at}
use Rattle.agg_segment.specs.declared.query.QueryTree.{QueryTree}
use Rattle.agg_request_tree.specs.Metrics.{values_of_field}
use Rattle.agg_request_tree.specs.Request.{Request, agg_of, below_of}
use Rattle.agg_request_tree.specs.declared.aggregation.Aggregation.{Aggregation}
use Rattle.agg_request_tree.specs.declared.aggregation.AggregationVariants.{AggregationVariants}
use Rattle.agg_request_tree.specs.declared.aggregation.AggregationVariants.TheVariants as asks
use Rattle.agg_results.specs.declared.metric_results.metric.IntermediateMetricResult as metrics
use metrics.{IntermediateMetricResult}
use Rattle.agg_results.specs.intermediate_results.Intermediate.{Held as Results, metric}
use Rattle.agg_results.specs.declared.intermediate_results as intermediate
use intermediate.results.IntermediateAggregationResult.TheVariants as result
use Rattle.agg_metric.specs.Collector.{Metric, MetricFor}
use Rattle.agg_metric.specs.Metric.{metric_of}
use Rattle.agg_metric.specs.declared.request_data.MetricAggReqData.{MetricAggReqData}
use Rattle.agg_metric.specs.declared.request_data.StatsType.{StatsType}
use Rattle.agg_metric.specs.declared.request_data.StatsType.TheVariants as stats
use Rattle.agg_results.specs.StandsFor.{NamesStand, PartsStand, StandsTo}
use Rattle.agg_engine_tree.specs.segment_context.Context.{IsAskedAt, IsMetricAt, IsPlanOf, Meaning}
use Rattle.agg_engine_tree.specs.segment_context.Plan.{Plan}
use Rattle.agg_engine_tree.specs.declared.segment_context.context.PerRequestAggSegCtx.{
  PerRequestAggSegCtx,
}
use Rattle.agg_engine_tree.specs.declared.segment_context.node.AggKind.TheVariants as kind
use Rattle.agg_engine_tree.specs.collector_tree.Tree.{Held, IsOf}
use Rattle.agg_engine_tree.specs.tree_results.Results.{IsTrail, docs_taken}
use Rattle.agg_engine_tree.proofs.lemmas.tree_results.NamedNodes.{metric-node}

module _ (meaning : Meaning) (ctx : PerRequestAggSegCtx) (name : List ℕ) (index : ℕ)
    (documents : List Fields) (r : IntermediateMetricResult)
    (is : (req : MetricAggReqData) → slice_get ctx.stats_metric_req_data index ≡ Some req
    → r ≡ metric_of req.collecting_for (values_of_field req.field documents)) where
  -- the metric of what is asked
  computed-is : (computed : StatsType) (field : List ℕ)
      → IsMetricAt meaning ctx name computed field index
      → r ≡ metric_of computed (values_of_field field documents)
  computed-is computed field at =
      is at.0 at.1 ∙ (λ i. metric_of (at.4 i) (values_of_field (at.3 i) documents))

  module _ (Below : Request QueryTree → List Fields → Results → Type 0)
      (below : Request QueryTree) where
    abbrev Stands : AggregationVariants QueryTree → IntermediateMetricResult → Type 0
    Stands v r = PartsStand matches Below v below documents (metric r)

    metric-by : (v : AggregationVariants QueryTree) (computed : StatsType)
        → IsAskedAt meaning ctx name v (kind.StatsKind computed) index → Stands v r
    metric-by (asks.Count a) stats.Count at =
        subst (Stands (asks.Count a)) (sym (computed-is stats.Count a.field at)) refl
    metric-by (asks.Max a) stats.Max at =
        subst (Stands (asks.Max a)) (sym (computed-is stats.Max a.field at)) refl
    metric-by (asks.Min a) stats.Min at =
        subst (Stands (asks.Min a)) (sym (computed-is stats.Min a.field at)) refl
    metric-by (asks.Sum a) stats.Sum at =
        subst (Stands (asks.Sum a)) (sym (computed-is stats.Sum a.field at)) refl
    metric-by (asks.Count a) stats.Max at = absurd at
    metric-by (asks.Count a) stats.Min at = absurd at
    metric-by (asks.Count a) stats.Sum at = absurd at
    metric-by (asks.Max a) stats.Count at = absurd at
    metric-by (asks.Max a) stats.Min at = absurd at
    metric-by (asks.Max a) stats.Sum at = absurd at
    metric-by (asks.Min a) stats.Count at = absurd at
    metric-by (asks.Min a) stats.Max at = absurd at
    metric-by (asks.Min a) stats.Sum at = absurd at
    metric-by (asks.Sum a) stats.Count at = absurd at
    metric-by (asks.Sum a) stats.Max at = absurd at
    metric-by (asks.Sum a) stats.Min at = absurd at
    metric-by (asks.Filter a) computed at = absurd at
    metric-by (asks.Composite a) computed at = absurd at

-- it stands for the documents that the metric took
pub metric-stands : (ctx : PerRequestAggSegCtx) (index : ℕ) (collector : Metric)
    (parent : Option ℕ) (req : MetricAggReqData)
    → slice_get ctx.stats_metric_req_data index ≡ Some req
    → (r : IntermediateMetricResult)
    → ((segment : Stored) (taken : List (ℕ × ℕ)) → MetricFor segment req collector taken
    → r ≡ metric_of req.collecting_for
    (values_of_field req.field (documents_at segment (docs_taken parent taken))))
    → (meaning : Meaning) (taken : List (ℕ × ℕ))
    → IsTrail meaning ctx (Held.metric index collector) parent taken
    → (name : List ℕ) (a : Aggregation QueryTree) (plan : Plan)
    → IsPlanOf meaning ctx name a plan → IsOf plan (Held.metric index collector)
    → (depth : ℕ) → StandsTo matches depth a
    (documents_at meaning.segment (docs_taken parent taken)) (Some (result.Metric r))
metric-stands ctx index collector parent req found r is meaning taken trail name a plan asked own
    zero = tt
metric-stands ctx index collector parent req found r is meaning taken trail name a plan asked own
    (suc depth) =
    let node = metric-node meaning ctx name a plan index collector asked own in
    metric-by meaning ctx name index (documents_at meaning.segment (docs_taken parent taken)) r
    (λ other at. let same = same_Some req other (sym found ∙ at) in
    subst (λ (q : MetricAggReqData). r ≡ metric_of q.collecting_for
    (values_of_field q.field (documents_at meaning.segment (docs_taken parent taken)))) same
    (is meaning.segment taken (trail.right.0 req found)))
    (NamesStand matches (StandsTo matches depth)) (below_of a) (agg_of a) node.0 node.1
