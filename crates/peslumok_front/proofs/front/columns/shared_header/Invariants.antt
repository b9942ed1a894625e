use Rattle.std.proofs.Common.{take}
use Rattle.peslumok_front.specs.front.Columns.{HaveOwnHeaders}
use Rattle.peslumok_front.proofs.front.columns.shared_header.Given as goal

-- the columns so far have names of their own
abbrev pub invariant-loop-place : goal.invariant-loop-place
invariant-loop-place l = HaveOwnHeaders (take l.place l.columns)
