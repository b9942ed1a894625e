use Rattle.agg_segment.proofs.lemmas.storage.DenseEnds.{AreSoFar}
use Rattle.agg_segment.proofs.storage.rows.ends.all_ends.Given as goal

abbrev pub invariant-loop-doc : goal.invariant-loop-doc
invariant-loop-doc l = AreSoFar l.docs l.doc l.at l.ends.items
