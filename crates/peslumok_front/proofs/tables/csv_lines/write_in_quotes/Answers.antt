use Rattle.std.proofs.Common.{arith}
use Rattle.peslumok_front.proofs.lemmas.tables.Parts.{byte-appended}
use Rattle.peslumok_front.proofs.lemmas.tables.QuotedCells.{character-appended, quoted-appended}
use Rattle.peslumok_front.proofs.tables.csv_lines.write_in_quotes.Goals as goal

pub loop-c-preserved : goal.loop-c-preserved
loop-c-preserved c =
    character-appended _ _ _ _ _ _ c.in_ok-write_doubled.ensures c.in-Some.ensures.steps.0
    c.loop-c.invariant

pub returns : goal.returns
returns c =
    quoted-appended _ _ _ _ c.args.cell.now _
    (byte-appended _ _ _ 34 c.in_ok-push.ensures.bytes (c.in_ok-push.ensures.ascii (omega arith)))
    c.loop-c.invariant c.in-None.ensures.steps.0.0
    (byte-appended _ _ _ 34 c.in_ok-push-2.ensures.bytes
    (c.in_ok-push-2.ensures.ascii (omega arith)))
