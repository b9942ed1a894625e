use Rattle.std.proofs.Common.{◌≡◌, ◌∙◌, arith, subst, take}
use Rattle.std.proofs.lemmas.List.{take_all}
use Rattle.csv.specs.Reading.{strip_bom}
use Rattle.peslumok_records.specs.declared.cells.quotes.CellPart.TheVariants as part
use Rattle.peslumok_records.proofs.lemmas.cells.CellParts.{IsPartAfter, part_more}
use Rattle.peslumok_records.proofs.cells.quotes.ends_in_quotes.Goals as goal

pub loop-byte-preserved : goal.loop-byte-preserved
loop-byte-preserved c =
    let l = c.loop-byte in
    part_more c.args.delimiter c.without_mark-text.result.now l.byte-index l.part
    c.after-part.result c.loop-byte-test.true c.after-part.ensures l.invariant

pub returns-in-Quoted-clause-unclosed : goal.returns-in-Quoted-clause-unclosed
returns-in-Quoted-clause-unclosed c = λ _ closed.
    let l = c.loop-byte in
    let text = c.without_mark-text.result.now in
    let whole : take l.byte-index text ≡ strip_bom c.args.bytes.now =
    take_all l.byte-index text (omega (arith, c.loop-byte-test.false))
    ∙ c.without_mark-text.ensures in
    closed (subst (λ bytes. IsPartAfter c.args.delimiter bytes part.Quoted) whole
    (subst (IsPartAfter c.args.delimiter (take l.byte-index text)) c.in-Quoted.is l.invariant))
