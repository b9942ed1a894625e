-- Cells that are appended one after another.
use Rattle.std.proofs.Common.{◌≡◌, ◌+◌, ◌<◌, ◌++◌, ℕ, List, [], ◌∷◌, append_assoc, get_or, length}
use Rattle.std.proofs.Common.{take}
use Rattle.std.proofs.lemmas.List.{take_more}
use Rattle.csv.specs.Writing.{default_writer, field_text, fields_text}
use Rattle.csv.proofs.WriteFacts.{fields-snoc}

-- one more cell, after a comma
pub cell-appended : (start before spaced after : List ℕ) (cells : List (List ℕ)) (index : ℕ)
    (d : List ℕ)
    → index < length cells
    → before ≡ start ++ fields_text default_writer (take index cells)
    → spaced ≡ before ++ 44 ∷ []
    → after ≡ spaced ++ field_text default_writer (get_or cells index d)
    → after ≡ start ++ fields_text default_writer (take (index + 1) cells)
cell-appended start before spaced after cells index d less b s a =
    rw (
      take_more cells index d less,
      fields-snoc default_writer (take index cells) (get_or cells index d),
      a,
      s,
      b,
    ) (simp append_assoc)
