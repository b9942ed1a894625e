use Rattle.peslumok_front.proofs.lemmas.grouping.NamedMetrics.{metrics-more}
use Rattle.peslumok_front.proofs.grouping.request.metrics_of.Goals as goal

pub loop-metric-preserved : goal.loop-metric-preserved
loop-metric-preserved g c =
    metrics-more {B = g.row.B.Denot} c.args.metrics.now c.loop-metric.metric-index _
    c.loop-metric.below c.put_metric.new.below c.loop-metric-test.true c.loop-metric.invariant
    c.in_ok-put_metric.ensures
