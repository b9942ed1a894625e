use Rattle.std.proofs.Common.{◌++◌, ◌∙◌, ap, string_bytes, sym}
use Rattle.peslumok_front.proofs.lemmas.tables.QuotedCells.{escaped-other, escaped-quote}
use Rattle.peslumok_front.proofs.tables.csv_lines.write_doubled.Goals as goal

pub returns-then-c-eq34 : goal.returns-then-c-eq34
returns-then-c-eq34 c =
    c.in_ok-push_str.ensures.bytes
    ∙ ap (λ t. string_bytes c.args.out.now ++ t) (sym (escaped-quote c.args.c c.if-c-eq34.true))

pub returns : goal.returns
returns c =
    c.in_ok-push.ensures.bytes
    ∙ ap (λ t. string_bytes c.args.out.now ++ t) (sym (escaped-other c.args.c c.if-c-eq34.false))
