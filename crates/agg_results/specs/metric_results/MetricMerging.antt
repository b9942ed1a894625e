-- What merging makes of two results of metrics, and when it is refused.
use Rattle.std.specs.Prelude.{◌≡◌, ◌≤◌, ◌+◌, ◌^◌, ◌+ℤ◌, FitsSigned}
use Rattle.std.specs.Int.{int_max, int_min}
use mir.Syntax.{w128}
use Rattle.agg_request_tree.specs.Metrics.{best}
use Rattle.agg_results.specs.declared.metric_results.metric.IntermediateMetricResult as declared
use declared.{IntermediateMetricResult}
use declared.TheVariants.{Count, Max, Min, Sum}

-- two results of a metric as one
abbrev pub MetricsMerged : IntermediateMetricResult → IntermediateMetricResult
    → IntermediateMetricResult → Type 0
MetricsMerged (Count m) (Count n) (Count w) = w.count ≡ m.count + n.count
MetricsMerged (Max m) (Max n) (Max w) = w.value ≡ best int_max m.value n.value
MetricsMerged (Min m) (Min n) (Min w) = w.value ≡ best int_min m.value n.value
MetricsMerged (Sum m) (Sum n) (Sum w) = w.sum ≡ m.sum +ℤ n.sum
MetricsMerged m n w = ⊥

-- two metrics are of different kinds
abbrev pub MetricsDiffer : IntermediateMetricResult → IntermediateMetricResult → Type 0
MetricsDiffer (Count m) (Count n) = ⊥
MetricsDiffer (Max m) (Max n) = ⊥
MetricsDiffer (Min m) (Min n) = ⊥
MetricsDiffer (Sum m) (Sum n) = ⊥
MetricsDiffer m n = Unit

-- the count of both passes u64, or the sum of both i128
abbrev pub MetricsPass : IntermediateMetricResult → IntermediateMetricResult → Type 0
MetricsPass (Count m) (Count n) = 2 ^ 64 ≤ m.count + n.count
MetricsPass (Sum m) (Sum n) = ¬ (FitsSigned w128 (m.sum +ℤ n.sum))
MetricsPass m n = ⊥
