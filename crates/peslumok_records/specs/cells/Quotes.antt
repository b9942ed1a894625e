-- Where a byte stands in a cell, and where a quote may be open.
use Rattle.std.specs.Prelude.{◌≡◌, ◌==◌, ◌⊎◌, ◌++◌, ◌∷◌, [], ℕ, List, true}
use Rattle.std.specs.List.{list_any}
use Rattle.csv.specs.declared.parser.State.{State}
use Rattle.csv.specs.declared.parser.State.TheVariants as st
use Rattle.peslumok_records.specs.declared.cells.quotes.CellPart.{CellPart}
use Rattle.peslumok_records.specs.declared.cells.quotes.CellPart.TheVariants as part

-- the reader of cells is in this state where the next byte stands in this part of a cell
abbrev pub IsStateIn : CellPart → State → Type 0
IsStateIn part.Start state =
    (state ≡ st.StartRecord) ⊎ (state ≡ st.StartField) ⊎ (state ≡ st.AfterCr)
IsStateIn part.Bare state = state ≡ st.InField
IsStateIn part.Quoted state = state ≡ st.InQuoted
IsStateIn part.AfterQuote state = state ≡ st.AfterQuote

-- a quote may be open at the end of a text, in its last cell: the cell has a quote or is after one
abbrev pub MayBeOpenIn : List ℕ → List ℕ → Type 0
MayBeOpenIn text cell =
    (list_any (λ b. b == 34) cell ≡ true) ⊎ ((front : List ℕ) × (text ≡ front ++ 34 ∷ cell))

-- a quote may be open at the end of a text, after its last row
abbrev pub MayBeOpenAfter : List ℕ → List (List ℕ) → Type 0
MayBeOpenAfter text row =
    (cells : List (List ℕ)) × (cell : List ℕ) × (row ≡ cells ++ cell ∷ [])
    × MayBeOpenIn text cell
