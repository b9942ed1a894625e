use Rattle.std.proofs.Common.{sym}
use Rattle.peslumok_front.proofs.lemmas.after_text.ReadKeys.{unmarked-cell}
use Rattle.peslumok_front.proofs.after_text.written.is_cell.Goals as goal

pub returns-then-not-is_empty : goal.returns-then-not-is_empty
returns-then-not-is_empty c =
    unmarked-cell c.args.text.now c.strip_prefix.result c.is_none.result
    c.strip_prefix.ensures.cases (sym c.if-not-is_empty.ensures) c.is_none.ensures
