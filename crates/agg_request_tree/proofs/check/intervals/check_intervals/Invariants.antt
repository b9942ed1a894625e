use Rattle.std.proofs.Common.{take}
use Rattle.std.specs.List.{All}
use Rattle.agg_request_tree.specs.Faults.{HasInterval}
use Rattle.agg_request_tree.proofs.check.intervals.check_intervals.Given as goal

-- the sources so far have what they divide values by
abbrev pub invariant-loop-source : goal.invariant-loop-source
invariant-loop-source l = All HasInterval (take l.source-index l.sources)
