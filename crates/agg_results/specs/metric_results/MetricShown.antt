-- Metrics, as they are shown.
use Rattle.std.specs.Prelude.{ℕ, ℤ, pos, Option, Some}
use Rattle.agg_results.specs.declared.final_results.types as final
use final.AggregationResult.{AggregationResult}
use final.AggregationResult.TheVariants.{MetricResult}
use final.MetricResult.TheVariants as metrics
use Rattle.agg_results.specs.declared.metric_results.metric.IntermediateMetricResult as declared
use declared.{IntermediateMetricResult}
use declared.TheVariants.{Count, Max, Min, Sum}

-- how many values there are
abbrev pub shown_count : ℕ → AggregationResult
shown_count count = MetricResult (metrics.Count (record { value = Some (pos count) }))

-- the greatest number, if there is one
abbrev pub shown_max : Option ℤ → AggregationResult
shown_max value = MetricResult (metrics.Max (record { value = value }))

-- the least number, if there is one
abbrev pub shown_min : Option ℤ → AggregationResult
shown_min value = MetricResult (metrics.Min (record { value = value }))

-- the sum of the numbers
abbrev pub shown_sum : ℤ → AggregationResult
shown_sum sum = MetricResult (metrics.Sum (record { value = Some sum }))

-- the final result of what is held of a metric
abbrev pub final_metric : IntermediateMetricResult → AggregationResult
final_metric (Count r) = shown_count r.count
final_metric (Max r) = shown_max r.value
final_metric (Min r) = shown_min r.value
final_metric (Sum r) = shown_sum r.sum
