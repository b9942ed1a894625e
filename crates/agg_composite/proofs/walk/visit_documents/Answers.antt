use Rattle.agg_composite.proofs.DocumentsInRow.{all-documents, document-error, document-keeps}
use Rattle.agg_composite.proofs.DocumentsInRow.{no-documents, one-document}
use Rattle.agg_composite.proofs.walk.visit_documents.Goals as goal

pub loop-doc-preserved : goal.loop-doc-preserved
loop-doc-preserved g c = record {
  answers = one-document c.args.req.now c.args.docs.now c.loop-doc.doc-index c.args.buckets.now
      c.loop-doc.buckets c.args.steps.now c.loop-doc.steps c.loop-doc.invariant.answers 0
      c.loop-doc-test.true c.visit_document.new.buckets c.visit_document.new.steps
      c.in_ok-visit_document.ensures.answers;
  held = document-keeps c.args.req.now c.args.docs.now c.loop-doc.doc-index 0 c.loop-doc-test.true
      c.args.buckets.now c.loop-doc.buckets c.visit_document.new.buckets
      c.loop-doc.invariant.held c.visit_document.ensures.held;
}

pub returns-in_err-visit_document-clause-answers :
    goal.returns-in_err-visit_document-clause-answers
returns-in_err-visit_document-clause-answers g c =
    document-error c.args.req.now c.args.docs.now c.loop-doc.doc-index c.args.buckets.now
    c.loop-doc.buckets c.args.steps.now c.loop-doc.steps c.loop-doc.invariant.answers 0
    c.loop-doc-test.true c.visit_document.new.buckets c.visit_document.new.steps
    c.in_err-visit_document.field-0.0 c.from_residual.result
    c.in_err-visit_document.ensures.answers c.from_residual.ensures.1

pub returns-in_err-visit_document-clause-held : goal.returns-in_err-visit_document-clause-held
returns-in_err-visit_document-clause-held g c =
    document-keeps c.args.req.now c.args.docs.now c.loop-doc.doc-index 0 c.loop-doc-test.true
    c.args.buckets.now c.loop-doc.buckets c.visit_document.new.buckets c.loop-doc.invariant.held
    c.visit_document.ensures.held

pub returns-clause-answers : goal.returns-clause-answers
returns-clause-answers g c =
    all-documents c.args.req.now c.args.docs.now c.loop-doc.doc-index c.args.buckets.now
    c.loop-doc.buckets c.args.steps.now c.loop-doc.steps c.loop-doc.invariant.answers
    c.loop-doc-test.false

pub returns-clause-held : goal.returns-clause-held
returns-clause-held g c = c.loop-doc.invariant.held

pub loop-doc-init : goal.loop-doc-init
loop-doc-init g c = record {
  answers = no-documents c.args.req.now c.args.docs.now c.args.buckets.now c.args.steps.now;
  held = λ segment after fit range held. held;
}
