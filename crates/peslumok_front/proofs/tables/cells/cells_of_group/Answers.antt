use Rattle.std.proofs.Common.{arith}
use Rattle.peslumok_front.proofs.lemmas.tables.CellLists.{group-more}
use Rattle.peslumok_front.proofs.tables.cells.cells_of_group.Goals as goal

pub loop-column-preserved : goal.loop-column-preserved
loop-column-preserved c =
    group-more c.args.entry.now c.as_slice-column-items.result.now c.loop-column.column-index
    c.column-item.result c.loop-column.cells.items _ _ (omega arith) c.column-item.is
    c.in_ok-push.ensures.items c.in_ok-group_cell.ensures c.loop-column.invariant
