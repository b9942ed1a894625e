use Rattle.std.proofs.Common.{◌++◌, ◌∙◌, ap, string_bytes}
use Rattle.std.proofs.lemmas.Slice.Zip.{either_empty_from_Zip}
use Rattle.std.specs.Prelude.{not}
use Rattle.agg_results.specs.final_results.Appending.{more_items}
use Rattle.peslumok_front.specs.tables.Cells.{shown_cells}
use Rattle.peslumok_front.specs.tables.JsonLines.{column_members}
use Rattle.peslumok_front.proofs.lemmas.tables.JsonMembers.{members-done}
use Rattle.peslumok_front.proofs.tables.json_lines.write_members.Goals as goal

pub returns : goal.returns
returns c =
    members-done _ _ c.loop-column.is_first c.is_total-is_total.result _ _
    (either_empty_from_Zip c.loop-column.column-iterator c.next.new.self _ c.in-None.is
    c.next.ensures.steps) c.loop-column.invariant
    ∙ ap (λ total. string_bytes c.args.out.now ++ more_items (not total) (column_members total
    c.args.columns.now (shown_cells c.args.row.now))) c.is_total-is_total.ensures
