use Rattle.std.proofs.Common.{[], ◌∷◌, take}
use Rattle.std.specs.List.{flat_map}
use Rattle.agg_segment.specs.storage.Columns.{encoded_key}
use Rattle.agg_metric.specs.Metric.{TakesIn}
use Rattle.agg_metric.proofs.metric.take_in_column.Given as goal

abbrev pub invariant-loop-value : goal.invariant-loop-value
invariant-loop-value l =
    TakesIn (flat_map (λ n. encoded_key l.column.keys n ∷ []) (take l.value-index l.values))
    l.fn.metric l.metric
