-- What a source had left, and what is gone from it.
use Rattle.std.specs.Prelude.{◌≡◌, ◌≤◌, ℕ, List, [], Option, Some, drop}

-- the bytes are all that were left, where these were told, and now none is
abbrev pub GivesAll : Option (List ℕ) → Option (List ℕ) → List ℕ → Type 0
GivesAll left left_now bytes =
    (all : List ℕ) → left ≡ Some all → (bytes ≡ all) × (left_now ≡ Some [])

-- at most so many bytes are gone, a prefix of those that were left, where these were told
abbrev pub TakesAtMost : ℕ → Option (List ℕ) → Option (List ℕ) → Type 0
TakesAtMost most left left_now =
    (all : List ℕ) → left ≡ Some all
    → (count : ℕ) × (count ≤ most) × (left_now ≡ Some (drop count all))
