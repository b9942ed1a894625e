use Rattle.std.proofs.Common.{◌+◌, take, drop}
use Rattle.agg_segment.specs.storage.Columns.{all_keys, column_keys}
use Rattle.agg_results.proofs.lemmas.metric_results.Exits.{on_err}
use Rattle.agg_metric.proofs.ListParts.{both-parts, next-part}
use Rattle.agg_metric.proofs.TakenValues.{many-both}
use Rattle.agg_metric.proofs.metric.take_document.Goals as goal

pub returns-in_err-take_in_column-clause-err : goal.returns-in_err-take_in_column-clause-err
returns-in_err-take_in_column-clause-err c =
    let columns = c.args.columns.now in
    let i = c.loop-column.column-index in
    let doc = c.args.doc in
    on_err c.from_residual.result
    (many-both (all_keys (take i columns) doc) (column_keys c.column-item.result doc)
    (all_keys (take (i + 1) columns) doc) (all_keys (drop (i + 1) columns) doc)
    (all_keys columns doc) c.args.metric.now c.loop-column.metric
    (next-part (λ column. column_keys column doc) columns i c.column-item.result
    c.loop-column-test.true c.column-item.is)
    (both-parts (λ column. column_keys column doc) columns (i + 1))
    c.loop-column.invariant c.in_err-take_in_column.ensures.err)
