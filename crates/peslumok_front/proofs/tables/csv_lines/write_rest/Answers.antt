use Rattle.std.proofs.Common.{arith, string_bytes}
use Rattle.peslumok_front.proofs.lemmas.tables.CsvCells.{cell-appended, no-cells}
use Rattle.peslumok_front.proofs.lemmas.tables.Parts.{byte-appended}
use Rattle.peslumok_front.proofs.tables.csv_lines.write_rest.Goals as goal

pub loop-cell-init : goal.loop-cell-init
loop-cell-init c = no-cells (string_bytes c.args.out.now)

pub loop-cell-preserved : goal.loop-cell-preserved
loop-cell-preserved c =
    cell-appended _ _ _ _ c.args.cells.now c.loop-cell.cell-index _ (omega arith)
    c.loop-cell.invariant
    (byte-appended _ _ _ 44 c.in_ok-push.ensures.bytes (c.in_ok-push.ensures.ascii (omega arith)))
    c.in_ok-write_csv_cell.ensures
