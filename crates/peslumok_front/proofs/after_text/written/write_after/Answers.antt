use Rattle.std.proofs.Common.{string_bytes, subst, ◌++◌, ◌≡◌}
use Rattle.std.specs.Prelude.{OnOk}
use Rattle.csv.specs.Writing.{default_writer, row_body}
use Rattle.peslumok_front.specs.after_text.After.{HaveOwnColumns, IsAfterText, NamesFirst}
use Rattle.peslumok_front.proofs.lemmas.after_text.WrittenKeys.{line-back, written-back}
use Rattle.peslumok_front.proofs.after_text.written.write_after.Goals as goal

pub returns : goal.returns
returns c =
    written-back c.write_texts.result (string_bytes c.write_texts.new.out)
    (string_bytes c.args.out.now) (row_body default_writer c.in_ok-texts.texts.items)
    (λ t. HaveOwnColumns c.args.grouping.now.by.items
    → NamesFirst c.args.grouping.now.by.items c.args.after.now
    → IsAfterText c.args.grouping.now t c.args.after.now)
    (subst (λ ts. OnOk c.write_texts.result (string_bytes c.write_texts.new.out
    ≡ string_bytes c.args.out.now ++ row_body default_writer ts))
    c.as_slice.ensures.value c.write_texts.ensures)
    (line-back c.args.grouping.now c.args.after.now c.in_ok-texts.texts.items
    c.in_ok-texts.ensures)
