-- Metrics of values, and values that a metric takes in.
use Rattle.std.specs.Prelude.{◌≡◌, ◌≤◌, ◌^◌, ◌++◌, List, FitsSigned, filter_map, length}
use Rattle.std.specs.Int.{int_max, int_min}
use mir.Syntax.{w128}
use Rattle.agg_values.specs.TypedKey.{CompositeIntermediateKey}
use Rattle.agg_request_tree.specs.Metrics.{best_of, number_of, sum_of}
use Rattle.agg_results.specs.declared.metric_results.metric.IntermediateMetricResult as intermediate
use intermediate.{IntermediateMetricResult}
use intermediate.TheVariants as m
use Rattle.agg_metric.specs.declared.request_data.StatsType.{StatsType}
use Rattle.agg_metric.specs.declared.request_data.StatsType.TheVariants.{Count, Max, Min, Sum}

-- the metric of some values: how many they are, or the best or the sum of the numbers and dates
abbrev pub metric_of : StatsType → List CompositeIntermediateKey → IntermediateMetricResult
metric_of Count values = m.Count (record { count = length values })
metric_of Max values = m.Max (record { value = best_of int_max (filter_map number_of values) })
metric_of Min values = m.Min (record { value = best_of int_min (filter_map number_of values) })
metric_of Sum values = m.Sum (record { sum = sum_of (filter_map number_of values) })

-- a count or a sum of some values lies outside its type
abbrev pub Passes : StatsType → List CompositeIntermediateKey → Type 0
Passes Count values = 2 ^ 64 ≤ length values
Passes Sum values = ¬ (FitsSigned w128 (sum_of (filter_map number_of values)))
Passes _ values = ⊥

-- values are too many where the metric of the first of them lies outside its type
abbrev pub IsTooMany : StatsType → List CompositeIntermediateKey → Type 0
IsTooMany kind values =
    (first : List CompositeIntermediateKey) × (rest : List CompositeIntermediateKey)
    × (values ≡ first ++ rest) × Passes kind first

-- a metric took values in: where it was that of some, it is that of these and the values
abbrev pub TakesIn : List CompositeIntermediateKey → IntermediateMetricResult
    → IntermediateMetricResult → Type 0
TakesIn values old new =
    (kind : StatsType) (before : List CompositeIntermediateKey)
    → old ≡ metric_of kind before → new ≡ metric_of kind (before ++ values)

-- values are too many for a metric with those that it has
abbrev pub TooManyWith : List CompositeIntermediateKey → IntermediateMetricResult → Type 0
TooManyWith values old =
    (kind : StatsType) (before : List CompositeIntermediateKey)
    → old ≡ metric_of kind before → IsTooMany kind (before ++ values)
