use Rattle.std.proofs.Common.{◌≡◌, ◌++◌, map, string_bytes}
use Rattle.std.specs.Iterator.Adapters.{zip_first, zip_second}
use Rattle.std.specs.Slice.Iter.{iter_rest}
use Rattle.agg_results.specs.final_results.Appending.{more_items}
use Rattle.peslumok_front.specs.tables.Cells.{shown_by, shown_cells}
use Rattle.peslumok_front.specs.tables.JsonLines.{column_members}
use Rattle.peslumok_front.proofs.tables.json_lines.write_members.Given as goal

-- the text so far with the members that are left is the whole
abbrev pub invariant-loop-column : goal.invariant-loop-column
invariant-loop-column l =
    string_bytes l.out
    ++ more_items l.is_first (column_members l.is_total (iter_rest (zip_first l.column-iterator))
    (map shown_by (iter_rest (zip_second l.column-iterator))))
    ≡ string_bytes l.initial.out
    ++ more_items l.initial.is_first (column_members l.is_total l.fn.columns
    (shown_cells l.fn.row))
