use Rattle.std.proofs.Common.{◌++◌, List, drop, map}
use Rattle.std.specs.Prelude.{codes}
use denote.Text.{Utf8}
use denote.Shadow.{shadow}
use Rattle.peslumok_front.specs.tables.Cells.{Shown, shown_by}
use Rattle.peslumok_front.specs.tables.Groups.{ShowsTotals}
use Rattle.peslumok_front.proofs.tables.cells.cells_of_total.Given as goal

-- the label is text, and the cells so far with those of the columns that are left are the whole
abbrev pub invariant-loop-column : goal.invariant-loop-column
invariant-loop-column l =
    shadow (Utf8 l.label)
    × ((rest : List Shown)
    → ShowsTotals l.label l.doc_count l.metrics (drop l.column-index l.column-items) rest
    → ShowsTotals (codes "total") l.doc_count l.metrics l.column-items
    (map shown_by l.cells.items ++ rest))
