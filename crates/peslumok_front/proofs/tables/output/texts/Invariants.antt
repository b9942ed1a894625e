use Rattle.std.proofs.Common.{◌≡◌, map, take}
use Rattle.peslumok_front.specs.tables.Cells.{shown_by}
use Rattle.peslumok_front.specs.tables.Output.{csv_cell}
use Rattle.peslumok_front.proofs.tables.output.texts.Given as goal

-- the texts of the cells so far
abbrev pub invariant-loop-cell : goal.invariant-loop-cell
invariant-loop-cell l =
    map (λ text. text.now) l.texts.items
    ≡ map csv_cell (map shown_by (take l.cell-index l.cell-items))
