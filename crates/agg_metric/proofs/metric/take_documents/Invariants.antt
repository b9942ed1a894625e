use Rattle.std.proofs.Common.{take}
use Rattle.std.specs.List.{flat_map}
use Rattle.agg_segment.specs.storage.Columns.{all_keys}
use Rattle.agg_metric.specs.Metric.{TakesIn}
use Rattle.agg_metric.proofs.metric.take_documents.Given as goal

abbrev pub invariant-loop-doc : goal.invariant-loop-doc
invariant-loop-doc l =
    TakesIn (flat_map (all_keys l.columns) (take l.doc-index l.docs)) l.fn.metric l.metric
