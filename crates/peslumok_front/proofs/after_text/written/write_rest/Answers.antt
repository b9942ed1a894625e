use Rattle.std.proofs.Common.{ap, arith, string_bytes, ◌++◌, ◌∙◌}
use Rattle.csv.specs.Writing.{default_writer, field_text}
use Rattle.peslumok_front.proofs.lemmas.tables.CsvCells.{no-cells}
use Rattle.peslumok_front.proofs.lemmas.tables.Parts.{byte-appended}
use Rattle.peslumok_front.proofs.lemmas.after_text.CsvCells.{cell-appended}
use Rattle.peslumok_front.proofs.after_text.written.write_rest.Goals as goal

pub loop-text-init : goal.loop-text-init
loop-text-init c = no-cells (string_bytes c.args.out.now)

pub loop-text-preserved : goal.loop-text-preserved
loop-text-preserved c =
    cell-appended _ _ _ _ c.args.texts.now c.loop-text.text-index c.text-item.result (omega arith)
    c.loop-text.invariant
    (byte-appended _ _ _ 44 c.in_ok-push.ensures.bytes (c.in_ok-push.ensures.ascii (omega arith)))
    (c.in_ok-write_csv_cell.ensures
    ∙ ap (λ t. string_bytes c.push.new.self ++ field_text default_writer t)
    (c.as_str.ensures ∙ c.text-item.is))
