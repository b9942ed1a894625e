-- What the matches of a command ask, part by part.
use Rattle.std.specs.Prelude.{◌≡◌, List, map, codes, false, None, option_map, IsSome}
use Rattle.std.specs.List.{AllZip}
use Rattle.clap.specs.Words.{Row, first_of}
use Rattle.peslumok_command_line.specs.Asked.{ReadsCondition, ReadsDate, ReadsDecimal, ReadsFlag}
use Rattle.peslumok_command_line.specs.Asked.{ReadsNumber, ReadsOptionalNumber, all_columns, column}
use Rattle.peslumok_command_line.specs.Asked.{texts_of}
use Rattle.peslumok_command_line.specs.declared.read.ColumnOptions.{ColumnOptions}
use Rattle.peslumok_command_line.specs.declared.read.PageOptions.{PageOptions}
use Rattle.peslumok_command_line.specs.declared.read.RecordOptions.{RecordOptions}

-- which groups are shown
pub record AsksPage (rows : List Row) (page : PageOptions) : Type 0 where
  pub size : ReadsNumber (codes "size") rows page.size
  pub after : option_map (λ text. text.now) page.after ≡ first_of (codes "after") rows
  pub all : ReadsFlag (codes "all") rows page.is_all
  pub top : ReadsOptionalNumber (codes "top") rows page.top
  pub alone : IsSome page.top → (page.after ≡ None) × (page.is_all ≡ false)

-- which records are read
pub record AsksRecords (rows : List Row) (records : RecordOptions) : Type 0 where
  pub files : map (λ file. file.now) records.files.items ≡ texts_of (codes "file") rows
  pub conditions : AllZip ReadsCondition (texts_of (codes "where") rows) records.conditions.items

-- what is shown of fields, and how they are read
pub record AsksColumns (rows : List Row) (columns : ColumnOptions) : Type 0 where
  pub metrics : map column columns.metrics.items ≡ all_columns rows
  pub dates : AllZip ReadsDate (texts_of (codes "date") rows) columns.dates.items
  pub decimals : AllZip ReadsDecimal (texts_of (codes "decimal") rows) columns.decimals.items
  pub texts : map (λ field. field.now) columns.texts.items ≡ texts_of (codes "text") rows
