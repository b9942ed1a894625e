-- Columns that are aligned.
use Rattle.std.specs.Prelude.{◌-◌, ◌++◌, ℕ, List, chars, false, replicate}
use Rattle.unicode_width.specs.Width.{str_width}
use Rattle.peslumok_front.specs.declared.tables.table.Side.{Side}
use Rattle.peslumok_front.specs.declared.tables.table.Side.TheVariants as side

-- as many spaces as fill a column beside a text
abbrev pub filling : ℕ → List ℕ → List ℕ
filling column text = replicate (column - str_width false (chars text)) 32

-- a text at its side of a column
abbrev pub padded : Side → ℕ → List ℕ → List ℕ
padded side.Left column text = text ++ filling column text
padded side.Right column text = filling column text ++ text
