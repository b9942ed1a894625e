use Rattle.std.proofs.Common.{map, take}
use Rattle.peslumok_front.specs.grouping.Fields.{AreAdded}
use Rattle.peslumok_front.proofs.grouping.fields.ask_metrics.Given as goal

-- the fields so far are asked for
abbrev pub invariant-loop-metric : goal.invariant-loop-metric
invariant-loop-metric l =
    AreAdded l.types (map (λ metric. metric.field.now) (take l.metric-index l.metrics)) l.fn.fields
    l.fields
