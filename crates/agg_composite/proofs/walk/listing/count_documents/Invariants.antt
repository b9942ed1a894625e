use Rattle.agg_composite.proofs.ListedTuples.{CountedSoFar}
use Rattle.agg_composite.proofs.walk.listing.count_documents.Given as goal

abbrev pub invariant-loop-doc : goal.invariant-loop-doc
invariant-loop-doc g l =
    CountedSoFar l.req l.docs l.doc-index l.fn.counts l.counts l.fn.steps l.steps
