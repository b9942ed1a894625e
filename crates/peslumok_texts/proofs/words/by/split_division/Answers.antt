use Rattle.std.proofs.Common.{sym}
use Rattle.peslumok_texts.proofs.lemmas.words.Offsets.{boundary_at_sign}
use Rattle.peslumok_texts.proofs.words.by.split_division.Goals as goal

pub split_at-requires : goal.split_at-requires
split_at-requires c = boundary_at_sign c.in-Some.text.now c.in-Some-sign_place.at
    (sym c.in-Some-sign_place.ensures)
