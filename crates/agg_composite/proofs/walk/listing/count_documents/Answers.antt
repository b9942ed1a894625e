use Rattle.agg_composite.proofs.ListedTuples.{all-counted, error-counted, none-counted, one-counted}
use Rattle.agg_composite.proofs.walk.listing.count_documents.Goals as goal

pub loop-doc-init : goal.loop-doc-init
loop-doc-init g c =
    none-counted c.args.req.now c.args.docs.now c.args.counts.now c.args.steps.now

pub loop-doc-preserved : goal.loop-doc-preserved
loop-doc-preserved g c =
    one-counted c.args.req.now c.args.docs.now c.loop-doc.doc-index c.args.counts.now
    c.loop-doc.counts c.args.steps.now c.loop-doc.steps c.loop-doc.invariant 0
    c.loop-doc-test.true c.count_document.new.counts c.count_document.new.steps
    c.in_ok-count_document.ensures

pub returns-in_err-count_document : goal.returns-in_err-count_document
returns-in_err-count_document g c =
    error-counted c.args.req.now c.args.docs.now c.loop-doc.doc-index c.args.counts.now
    c.loop-doc.counts c.args.steps.now c.loop-doc.steps c.loop-doc.invariant 0
    c.loop-doc-test.true c.count_document.new.counts c.count_document.new.steps
    c.in_err-count_document.field-0.0 c.from_residual.result c.in_err-count_document.ensures
    c.from_residual.ensures.1

pub returns : goal.returns
returns g c =
    all-counted c.args.req.now c.args.docs.now c.loop-doc.doc-index c.args.counts.now
    c.loop-doc.counts c.args.steps.now c.loop-doc.steps c.loop-doc.invariant
    c.loop-doc-test.false
