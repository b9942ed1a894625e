use Rattle.std.proofs.Common.{◌∙◌, ap, subst}
use Rattle.std.specs.Io.Iter.{u64_saturate}
use Rattle.agg_engine_tree.specs.uncut.NodeData.{IsDataOf}
use Rattle.agg_engine_tree.proofs.lemmas.uncut.NodeData.{composite-times, filter-times}
use Rattle.agg_engine_tree.proofs.lemmas.uncut.NodeData.{metric-times}
use Rattle.agg_engine_tree.proofs.uncut.node_data.NodeData.times.Goals as goal

pub returns-in-Composite : goal.returns-in-Composite
returns-in-Composite c segment asks of within =
    composite-times segment c.args.doc asks c.in-Composite.req c.count_occurrences.result
    (subst (IsDataOf segment asks) c.in-Composite.is of) c.count_occurrences.ensures

pub returns-in-Filter : goal.returns-in-Filter
returns-in-Filter c segment asks of within =
    c.from.ensures
    ∙ filter-times segment c.args.doc asks c.in-Filter.evaluator c.matches_document.result
    (subst (IsDataOf segment asks) c.in-Filter.is of) within c.matches_document.ensures.mark

pub returns-in-Metric : goal.returns-in-Metric
returns-in-Metric c segment asks of within =
    c.num_read.ensures
    ∙ ap u64_saturate (metric-times segment c.args.doc asks c.in-Metric.computed
    c.in-Metric.columns (subst (IsDataOf segment asks) c.in-Metric.is of))
