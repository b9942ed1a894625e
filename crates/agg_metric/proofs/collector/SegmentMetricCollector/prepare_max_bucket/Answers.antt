use Rattle.std.proofs.Common.{◌∙◌, ◌+◌, ◌-◌, ◌++◌, refl, ap, take, arith}
use Rattle.std.specs.Prelude.{if◌then◌else◌, replicate}
use Rattle.std.specs.Result.{is_ok}
use Rattle.std.specs.Vec.{vec_len}
use Rattle.agg_metric.proofs.PreparedParents.{prepared-right, resized}
use Rattle.agg_metric.proofs.collector.SegmentMetricCollector.prepare_max_bucket.Goals as goal

pub returns-clause-right : goal.returns-clause-right
returns-clause-right c = rw (← c.self.view_is) (λ segment req visited f.
    let metrics = c.self.inside.metrics in
    let size = c.args.max_bucket + 1 in
    prepared-right segment req visited _ _
    (resized _ _ (is_ok c.resize.result) size (size - vec_len metrics)
    (omega (arith, c.len.ensures, c.if-prepared-len.false))
    (c.resize.ensures.items
    ∙ ap (λ none. if is_ok c.resize.result
    then take size metrics.items ++ replicate (size - vec_len metrics) none
    else metrics.items) c.metric_of_none.ensures) refl) f)
