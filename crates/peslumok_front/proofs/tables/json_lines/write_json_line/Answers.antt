use Rattle.std.proofs.Common.{◌++◌, ◌∙◌, [], ap, arith, string_bytes}
use Rattle.std.specs.Prelude.{codes, if◌then◌else◌, not}
use Rattle.agg_results.specs.final_results.Appending.{more_items}
use Rattle.peslumok_front.specs.tables.Cells.{is_total, shown_cells}
use Rattle.peslumok_front.specs.tables.JsonLines.{column_members}
use Rattle.peslumok_front.proofs.lemmas.tables.JsonMembers.{line-written}
use Rattle.peslumok_front.proofs.lemmas.tables.Parts.{byte-appended}
use Rattle.peslumok_front.proofs.tables.json_lines.write_json_line.Goals as goal

pub returns : goal.returns
returns c =
    line-written _ _ _ _ _ (is_total c.args.row.now) c.args.columns.now
    (shown_cells c.args.row.now)
    (byte-appended _ _ _ 123 c.in_ok-push.ensures.bytes (c.in_ok-push.ensures.ascii (omega arith)))
    (c.in_ok-write_total.ensures
    ∙ ap (λ total. string_bytes c.push.new.self ++ (if total then codes "\"total\":true" else []))
    c.is_total.ensures)
    (c.in_ok-write_members.ensures
    ∙ ap (λ columns. string_bytes c.write_total.new.out
    ++ more_items (not (is_total c.args.row.now)) (column_members (is_total c.args.row.now) columns
    (shown_cells c.args.row.now)))
    c.as_slice.ensures)
    c.in_ok-push_str.ensures.bytes
