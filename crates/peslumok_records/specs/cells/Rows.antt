-- Rows of a text of cells that were read.
use Rattle.std.specs.Prelude.{◌≡◌, ◌++◌, ◌∷◌, [], ℕ, List, Option, Some, None, Bool, true, false}
use Rattle.std.specs.Prelude.{length}
use Rattle.csv.specs.Reading.{Reached, Ready, source_of, strip_bom}
use Rattle.csv.specs.Records.{fields_of}
use Rattle.csv.specs.declared.error.ErrorKind.{ErrorKind}
use Rattle.csv.specs.declared.error.ErrorKind.TheVariants as kind
use Rattle.csv.specs.declared.parser.State.TheVariants as st
use Rattle.csv.specs.declared.reader.Trim.TheVariants as trim
use Rattle.agg_values.specs.Nothing.{NoneIs}
use Rattle.peslumok_records.specs.declared.held.asked.AskedField.{AskedField}
use Rattle.peslumok_records.specs.cells.Csv.{AreEven, AreRowsOf, AreTexts, cells_config}
use Rattle.peslumok_records.specs.cells.Table.{AreTableDocuments}
use Rattle.peslumok_records.specs.declared.cells.rows.CellRows.{CellRows}

-- how many cells the first of these rows has
abbrev pub width_of : List (List (List ℕ)) → Option ℕ
width_of [] = None
width_of (header ∷ rows) = Some (length header)

-- these rows of a text were read, and the reader stands after them
pub record HasRead (delimiter : ℕ) (text : List ℕ) (rows : List (List (List ℕ))) (at : CellRows)
    : Type 0 where
  pub parted : at.delimiter ≡ delimiter
  pub whole : at.text.now ≡ text
  pub untrimmed : at.reader.trim ≡ trim.None
  pub ready : Ready at.reader
  pub config : at.reader.config ≡ cells_config delimiter
  pub left : List ℕ
  pub source : source_of (λ s. Some s.now) at.reader ≡ Some left
  pub reached : Reached (cells_config delimiter) st.StartRecord (strip_bom text) rows
      at.reader.state left
  pub rigid : at.reader.flexible ≡ false
  pub width : at.reader.expected ≡ width_of rows
  pub even : AreEven rows
  pub texts : AreTexts rows
  pub latest : (before : List (List (List ℕ))) (row : List (List ℕ)) → rows ≡ before ++ row ∷ []
      → row ≡ fields_of at.row

-- one row more was read, and it is the one that is kept
abbrev pub ReadsRow : CellRows → CellRows → Type 0
ReadsRow old new =
    (delimiter : ℕ) (text : List ℕ) (rows : List (List (List ℕ)))
    → HasRead delimiter text rows old
    → HasRead delimiter text (rows ++ fields_of new.row ∷ []) new

-- the rows that were read are all of a text, and nothing is wrong with them
abbrev pub HasReadAll : CellRows → Type 0
HasReadAll at =
    (delimiter : ℕ) (text : List ℕ) (rows : List (List (List ℕ)))
    → HasRead delimiter text rows at → AreRowsOf delimiter text rows

-- the text that is read has no documents
abbrev pub HasNoDocuments : CellRows → Type 0
HasNoDocuments at =
    (delimiter : ℕ) (text : List ℕ) (rows : List (List (List ℕ)))
    → HasRead delimiter text rows at → (asked : List AskedField)
    → NoneIs (AreTableDocuments delimiter text asked)

-- whether an error of the reader of cells is that it refuses a row
abbrev pub refuses_row : ErrorKind → Bool
refuses_row (kind.UnequalLengths at expected found) = true
refuses_row (kind.Utf8 at why) = true
refuses_row _ = false
