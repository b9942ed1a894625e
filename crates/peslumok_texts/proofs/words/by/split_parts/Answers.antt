use Rattle.std.proofs.Common.{refl}
use Rattle.peslumok_texts.proofs.words.by.split_parts.Goals as goal

pub returns : goal.returns
returns c =
    rw (
      ← c.cut_at.ensures,
      ← c.cut.ensures,
      c.in_ok-is_descending.ensures,
      ← c.split_name.ensures,
      ← c.cut-2.ensures,
      ← c.split_division.ensures,
    )
    refl
