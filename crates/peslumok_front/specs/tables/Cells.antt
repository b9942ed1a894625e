-- What the cells of a line show.
use Rattle.std.specs.Prelude.{ℕ, List, Bool, Option, None, Some, codes, if◌then◌else◌, map}
use Rattle.std.specs.Prelude.{string_bytes}
use Rattle.peslumok_front.specs.declared.tables.row.TableCell.{TableCell}
use Rattle.peslumok_front.specs.declared.tables.row.TableCell.TheVariants as cell
use Rattle.peslumok_front.specs.declared.tables.row.Row.{Row}

-- a text, a number, true or false, or no value
pub data Shown : Type 0 where
  shows_text : List ℕ → Shown
  shows_number : List ℕ → Shown
  shows_bool : Bool → Shown
  shows_nothing : Shown

-- what a cell shows
abbrev pub shown_by : TableCell → Shown
shown_by (cell.Text text) = shows_text (string_bytes text)
shown_by (cell.Number number) = shows_number (string_bytes number)
shown_by (cell.Bool b) = shows_bool b
shown_by cell.Missing = shows_nothing

-- what a line shows
abbrev pub shown_cells : Row → List Shown
shown_cells row = map shown_by row.cells.items

-- whether a line has the totals of all documents
abbrev pub is_total : Row → Bool
is_total row = row.is_total

-- `true` or `false`
abbrev pub bool_text : Bool → List ℕ
bool_text b = if b then codes "true" else codes "false"

-- the text of a cell, where it has a value
abbrev pub shown_text : Shown → Option (List ℕ)
shown_text (shows_text text) = Some text
shown_text (shows_number number) = Some number
shown_text (shows_bool b) = Some (bool_text b)
shown_text shows_nothing = None
