use Rattle.std.proofs.Common.{take}
use Rattle.agg_request_tree.specs.Faults.{HaveOwnNames}
use Rattle.agg_request_tree.proofs.check.has_duplicate.Given as goal

-- the sources so far have own names
abbrev pub invariant-loop-i : goal.invariant-loop-i
invariant-loop-i l = HaveOwnNames (take l.i l.sources)
