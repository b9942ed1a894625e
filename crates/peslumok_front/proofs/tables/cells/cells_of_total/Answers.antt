use Rattle.std.proofs.Common.{arith, map}
use Rattle.std.specs.Prelude.{codes}
use Rattle.peslumok_front.specs.tables.Cells.{shown_by}
use Rattle.peslumok_front.proofs.lemmas.tables.CellLists.{totals-done}
use Rattle.peslumok_front.proofs.tables.cells.cells_of_total.Goals as goal

pub returns-clause-cells : goal.returns-clause-cells
returns-clause-cells c =
    totals-done c.loop-column.label.now (codes "total") c.args.doc_count c.args.metrics.now
    c.as_slice-column-items.result.now c.args.columns.now c.loop-column.column-index
    (map shown_by c.loop-column.cells.items) c.as_slice-column-items.ensures (omega arith)
    c.loop-column.invariant.1
