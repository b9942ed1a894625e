use Rattle.std.proofs.Common.{map, take}
use Rattle.peslumok_front.specs.tables.Cells.{shown_by}
use Rattle.peslumok_front.specs.tables.Groups.{ShowsGroup}
use Rattle.peslumok_front.proofs.tables.cells.cells_of_group.Given as goal

-- the cells so far are those of the columns so far
abbrev pub invariant-loop-column : goal.invariant-loop-column
invariant-loop-column l =
    ShowsGroup (take l.column-index l.column-items) l.entry (map shown_by l.cells.items)
