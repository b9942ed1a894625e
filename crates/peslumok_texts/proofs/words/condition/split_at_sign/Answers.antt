use Rattle.std.proofs.Common.{sym}
use Rattle.peslumok_texts.proofs.lemmas.words.Signs.{boundary_at_sign}
use Rattle.peslumok_texts.proofs.words.condition.split_at_sign.Goals as goal

pub split_at-requires : goal.split_at-requires
split_at-requires c = boundary_at_sign c.args.text.now c.in-Some.at (sym c.in-Some.ensures)
