use Rattle.std.proofs.Common.{◌+◌, take, drop, get_or}
use Rattle.std.specs.List.{flat_map}
use Rattle.std.proofs.lemmas.List.{get_or_default}
use Rattle.agg_segment.specs.storage.Columns.{all_keys}
use Rattle.agg_results.proofs.lemmas.metric_results.Exits.{on_err}
use Rattle.agg_metric.proofs.ListParts.{both-parts, next-part}
use Rattle.agg_metric.proofs.TakenValues.{many-both}
use Rattle.agg_metric.proofs.metric.take_documents.Goals as goal

pub returns-in_err-take_document-clause-err : goal.returns-in_err-take_document-clause-err
returns-in_err-take_document-clause-err c =
    let docs = c.args.docs.now in
    let i = c.loop-doc.doc-index in
    let doc = get_or docs i 0 in
    let give = all_keys c.args.columns.now in
    on_err c.from_residual.result
    (many-both (flat_map give (take i docs)) (give doc) (flat_map give (take (i + 1) docs))
    (flat_map give (drop (i + 1) docs)) (flat_map give docs) c.args.metric.now c.loop-doc.metric
    (next-part give docs i doc c.loop-doc-test.true
    (get_or_default docs i 0 doc c.loop-doc-test.true))
    (both-parts give docs (i + 1))
    c.loop-doc.invariant c.in_err-take_document.ensures.err)
