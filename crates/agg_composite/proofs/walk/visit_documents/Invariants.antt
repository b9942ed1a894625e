use Rattle.agg_composite.specs.HeldTuples.{KeepTuplesAt}
use Rattle.agg_composite.proofs.DocumentsInRow.{DocumentsSoFar}
use Rattle.agg_composite.proofs.walk.visit_documents.Given as goal

abbrev pub invariant-loop-doc : goal.invariant-loop-doc
invariant-loop-doc g l = record {
  answers : DocumentsSoFar l.req l.docs l.doc-index l.fn.buckets l.buckets l.fn.steps l.steps;
  held : KeepTuplesAt l.req l.docs l.fn.buckets l.buckets;
}
