-- Rows in each format.
use Rattle.std.specs.Prelude.{◌≡◌, ◌++◌, ℕ, List, [], ◌∷◌, Bool, flat_map, if◌then◌else◌, map}
use Rattle.std.specs.Prelude.{unwrap_or, ⊤}
use Rattle.csv.specs.Reading.{AreRecords, default_config}
use Rattle.csv.specs.Writing.{default_writer, read_back, row_text}
use Rattle.csv.specs.declared.parser.State.TheVariants as st
use Rattle.peslumok_front.specs.tables.Cells.{Shown, shown_cells, shown_text}
use Rattle.peslumok_front.specs.tables.Columns.{header_of}
use Rattle.peslumok_front.specs.tables.JsonLines.{json_line}
use Rattle.peslumok_front.specs.declared.tables.columns.TableColumn.{TableColumn}
use Rattle.peslumok_texts.specs.declared.formats.OutputFormat.{OutputFormat}
use Rattle.peslumok_texts.specs.declared.formats.OutputFormat.TheVariants as format
use Rattle.peslumok_front.specs.declared.tables.row.Row.{Row}

-- a cell of CSV, empty where there is no value
abbrev pub csv_cell : Shown → List ℕ
csv_cell cell = unwrap_or (shown_text cell) []

-- the record of a row
abbrev pub csv_record : Row → List (List ℕ)
csv_record row = map csv_cell (shown_cells row)

-- the record of the header, where there is one
abbrev pub header_records : Bool → List TableColumn → List (List (List ℕ))
header_records has_header columns = if has_header then map header_of columns ∷ [] else []

-- the records of rows, after that of the header
abbrev pub csv_records : Bool → List TableColumn → List Row → List (List (List ℕ))
csv_records has_header columns rows = header_records has_header columns ++ map csv_record rows

-- the lines of records
abbrev pub csv_lines : List (List (List ℕ)) → List ℕ
csv_lines records = flat_map (row_text default_writer) records

-- the lines of records read as these records, where one of no cell reads as one of an empty cell
abbrev pub ReadBack : List (List (List ℕ)) → Type 0
ReadBack records =
    AreRecords default_config st.StartRecord (csv_lines records) (map read_back records)

-- the rows of a format are appended: of a table any text, of JSON a line for each, and of CSV the
-- lines of records that read back
abbrev pub AppendsRows : OutputFormat → List TableColumn → List Row → Bool → List ℕ → List ℕ
    → Type 0
AppendsRows format.Table columns rows has_header old new = ⊤
AppendsRows format.JsonLines columns rows has_header old new =
    new ≡ old ++ flat_map (json_line columns) rows
AppendsRows format.Csv columns rows has_header old new =
    (new ≡ old ++ csv_lines (csv_records has_header columns rows))
    × ReadBack (csv_records has_header columns rows)
