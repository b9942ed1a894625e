-- How a text of cells is read, and what is asked of its rows.
use Rattle.std.specs.Prelude.{◌≡◌, ◌≢◌, ◌∷◌, [], ℕ, List, length, ⊤}
use Rattle.std.specs.List.{All}
use Rattle.csv.specs.Machine.{step}
use Rattle.csv.specs.Reading.{AreRecords, default_config, strip_bom}
use Rattle.csv.specs.Records.{AllText}
use Rattle.csv.specs.declared.parser.Config.{Config}
use Rattle.csv.specs.declared.parser.State.{State}
use Rattle.csv.specs.declared.parser.State.TheVariants as st

-- how a text of cells is read that has this byte between them
abbrev pub cells_config : ℕ → Config
cells_config delimiter = record default_config { delimiter = delimiter }

-- the state after bytes that are read from a state on
abbrev pub state_after : Config → State → List ℕ → State
state_after config state [] = state
state_after config state (byte ∷ bytes) = state_after config (step config state byte).0 bytes

-- no quote is open where a text ends
abbrev pub IsClosed : ℕ → List ℕ → Type 0
IsClosed delimiter text =
    state_after (cells_config delimiter) st.StartRecord (strip_bom text) ≢ st.InQuoted

-- each of these rows has as many cells as the first one
abbrev pub AreEven : List (List (List ℕ)) → Type 0
AreEven [] = ⊤
AreEven (header ∷ rows) = All (λ row. length row ≡ length header) rows

-- each cell of these rows is UTF-8
abbrev pub AreTexts : List (List (List ℕ)) → Type 0
AreTexts rows = All AllText rows

-- these are the rows of a text in which nothing is wrong
pub record AreRowsOf (delimiter : ℕ) (text : List ℕ) (rows : List (List (List ℕ))) : Type 0 where
  pub records : AreRecords (cells_config delimiter) st.StartRecord (strip_bom text) rows
  pub closed : IsClosed delimiter text
  pub even : AreEven rows
  pub texts : AreTexts rows
