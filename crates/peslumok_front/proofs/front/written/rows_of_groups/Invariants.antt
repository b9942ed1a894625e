use Rattle.std.proofs.Common.{take}
use Rattle.std.specs.List.{AllZip}
use Rattle.peslumok_front.specs.front.Written.{IsGroupRow}
use Rattle.peslumok_front.proofs.front.written.rows_of_groups.Given as goal

-- the rows so far are those of the groups so far
abbrev pub invariant-loop-group : goal.invariant-loop-group
invariant-loop-group l =
    AllZip (IsGroupRow l.columns) (take l.group-index l.groups) l.rows.items
