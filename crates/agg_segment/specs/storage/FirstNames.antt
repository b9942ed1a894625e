-- Names that are kept by their numbers.
use Rattle.std.specs.Prelude.{◌≡◌, ◌<◌, ℕ, List, Some, length, get_or}
use Rattle.agg_values.specs.Names.{Named}
use Rattle.agg_segment.specs.storage.Cells.{number_of}

-- each name has its place as its number
abbrev pub AreFirst : List (List ℕ) → Named ℕ → Type 0
AreFirst first names =
    (k : ℕ) (d : List ℕ) → k < length first → number_of names (get_or first k d) ≡ Some k
