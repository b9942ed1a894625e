-- Lines of JSON: an object for each row.
use Rattle.std.specs.Prelude.{◌++◌, ◌&&◌, ℕ, List, [], ◌∷◌, Bool, codes, if◌then◌else◌}
use Rattle.json.specs.Print.{quoted}
use Rattle.agg_results.specs.final_results.ResultsText.{braced, member_text}
use Rattle.peslumok_front.specs.tables.Cells.{Shown, bool_text, is_total, shown_cells}
use Rattle.peslumok_front.specs.tables.Cells.{shows_bool, shows_nothing, shows_number, shows_text}
use Rattle.peslumok_front.specs.tables.Columns.{header_of, is_key}
use Rattle.peslumok_front.specs.declared.tables.columns.TableColumn.{TableColumn}
use Rattle.peslumok_front.specs.declared.tables.row.Row.{Row}

-- a cell as a value
abbrev pub json_text : Shown → List ℕ
json_text (shows_text text) = quoted text
json_text (shows_number number) = number
json_text (shows_bool b) = bool_text b
json_text shows_nothing = codes "null"

-- a member for each column, but in the totals none for a key
abbrev pub column_members : Bool → List TableColumn → List Shown → List (List ℕ)
column_members total [] cells = []
column_members total (column ∷ columns) [] = []
column_members total (column ∷ columns) (cell ∷ cells) =
    if total && is_key column then column_members total columns cells
    else member_text (header_of column) (json_text cell) ∷ column_members total columns cells

-- the totals say first that they are such
abbrev pub total_members : Bool → List (List ℕ)
total_members total = if total then codes "\"total\":true" ∷ [] else []

-- the line of a row
abbrev pub json_line : List TableColumn → Row → List ℕ
json_line columns row =
    braced (total_members (is_total row) ++ column_members (is_total row) columns (shown_cells row))
    ++ 10 ∷ []
