use Rattle.std.proofs.Common.{◌≡◌, ◌++◌, length}
use Rattle.agg_results.proofs.intermediate_results.merging.move_all.Given as goal

abbrev pub decreases-loop-entry : goal.decreases-loop-entry
decreases-loop-entry l = length l.from.items

abbrev pub invariant-loop-entry : goal.invariant-loop-entry
invariant-loop-entry l =
    l.whole.items ++ l.from.items ≡ l.fn.whole.items ++ l.fn.from.items
