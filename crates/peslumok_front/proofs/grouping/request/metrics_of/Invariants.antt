use Rattle.std.proofs.Common.{take}
use Rattle.peslumok_front.specs.grouping.Request.{AreMetricsOf}
use Rattle.peslumok_front.proofs.grouping.request.metrics_of.Given as goal

-- the metrics so far are below
abbrev pub invariant-loop-metric : goal.invariant-loop-metric
invariant-loop-metric g l = AreMetricsOf (take l.metric-index l.metrics) l.below
