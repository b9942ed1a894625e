use Rattle.peslumok_front.proofs.lemmas.grouping.AddedFields.{added-item}
use Rattle.peslumok_front.proofs.grouping.fields.ask_metrics.Goals as goal

pub loop-metric-preserved : goal.loop-metric-preserved
loop-metric-preserved c =
    added-item (λ metric. metric.field.now) c.args.metrics.now c.loop-metric.metric-index _
    c.args.types.now c.args.fields.now c.loop-metric.fields c.ask.new.fields c.in_ok-field.field
    c.loop-metric-test.true c.loop-metric.invariant c.in_ok-ask.ensures c.in_ok-field.ensures
