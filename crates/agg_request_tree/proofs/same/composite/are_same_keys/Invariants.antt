use Rattle.agg_request_tree.proofs.Pairs.{AreSameSoFar}
use Rattle.agg_request_tree.proofs.same.composite.are_same_keys.Given as goal

abbrev pub invariant-loop-entry : goal.invariant-loop-entry
invariant-loop-entry l = AreSameSoFar l.after l.other l.entry-iterator l.others
