use Rattle.std.proofs.Common.{take}
use Rattle.agg_segment.specs.storage.Columns.{all_keys}
use Rattle.agg_metric.specs.Metric.{TakesIn}
use Rattle.agg_metric.proofs.metric.take_document.Given as goal

abbrev pub invariant-loop-column : goal.invariant-loop-column
invariant-loop-column l =
    TakesIn (all_keys (take l.column-index l.columns) l.doc) l.fn.metric l.metric
