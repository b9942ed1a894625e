-- The intermediate results of a request over no documents.
use Rattle.std.specs.Prelude.{[], None, map, pos}
use Rattle.agg_request_tree.specs.Request.{Request}
use Rattle.agg_request_tree.specs.Source.{rules_of}
use Rattle.agg_request_tree.specs.declared.aggregation.Aggregation.{Aggregation}
use Rattle.agg_request_tree.specs.declared.aggregation.Aggregation.TheFolds.{fold-Aggregation}
use Rattle.agg_request_tree.specs.declared.aggregation.AggregationVariants.{AggregationVariants}
use Rattle.agg_request_tree.specs.declared.aggregation.AggregationVariants.TheVariants as asks
use Rattle.agg_results.specs.declared.metric_results.metric.IntermediateMetricResult.TheVariants
    as m
use Rattle.agg_results.specs.intermediate_results.Intermediate.{Held, as_composite, as_filter}
use Rattle.agg_results.specs.intermediate_results.Intermediate.{composite_of}
use Rattle.agg_results.specs.declared.intermediate_results as declared
use declared.results.IntermediateAggregationResult.{IntermediateAggregationResult}
use declared.results.IntermediateAggregationResult.TheVariants.{Metric}

-- the empty result of what an aggregation asks, with those of the aggregations below it: a page of
-- its size and orders without entries, no documents, no values
abbrev pub empty_by : {B : Type 0} → AggregationVariants B → Held → IntermediateAggregationResult
empty_by (asks.Filter filter) below = as_filter 0 below
empty_by (asks.Composite composite) below =
    as_composite (composite_of (rules_of composite.sources) composite.size [])
empty_by (asks.Count metric) below = Metric (m.Count (record { count = 0 }))
empty_by (asks.Max metric) below = Metric (m.Max (record { value = None }))
empty_by (asks.Min metric) below = Metric (m.Min (record { value = None }))
empty_by (asks.Sum metric) below = Metric (m.Sum (record { sum = pos 0 }))

-- the empty result of an aggregation
abbrev pub empty_result : {B : Type 0} → Aggregation B → IntermediateAggregationResult
empty_result {B = B} =
    fold-Aggregation B IntermediateAggregationResult (λ a. empty_by a.agg a.sub_aggregation)

-- the empty result of each name
abbrev pub empty_results : {B : Type 0} → Request B → Held
empty_results request = map (λ a. (a.0, empty_result a.1)) request
