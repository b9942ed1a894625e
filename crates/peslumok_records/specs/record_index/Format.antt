-- The format of a file's records, as its name or else its text tells it.
use Rattle.std.specs.Prelude.{ℕ, List, Option, Some, None, codes, find, not, unwrap_or}
use Rattle.std.specs.Prelude.{◌==◌, option_and_then, if◌then◌else◌}
use Rattle.std.specs.Char.{is_ascii_whitespace}
use Rattle.std.specs.Path.{path_extension}
use Rattle.std.specs.Str.{bytes_eq}
use Rattle.csv.specs.Reading.{strip_bom}
use Rattle.peslumok_texts.specs.declared.formats.RecordFormat.{RecordFormat}
use Rattle.peslumok_texts.specs.declared.formats.RecordFormat.TheVariants as format

-- the format that a file's extension tells
unfoldable pub format_of_end : List ℕ → Option RecordFormat
format_of_end extension =
    if bytes_eq extension (codes "jsonl") then Some format.JsonLines
    else if bytes_eq extension (codes "ndjson") then Some format.JsonLines
    else if bytes_eq extension (codes "json") then Some format.Json
    else if bytes_eq extension (codes "csv") then Some format.Csv
    else if bytes_eq extension (codes "tsv") then Some format.Tsv
    else if bytes_eq extension (codes "tab") then Some format.Tsv
    else None

-- the format that the end of a name tells
abbrev pub format_of_name : List ℕ → Option RecordFormat
format_of_name name = option_and_then format_of_end (path_extension name)

-- the format that a first byte tells: a brace begins an object, a bracket an array of them, and all
-- else a header
abbrev pub format_of_first : Option ℕ → RecordFormat
format_of_first None = format.Csv
format_of_first (Some b) =
    if b == 123 then format.JsonLines else if b == 91 then format.Json else format.Csv

-- the first byte that isn't blank, after a byte order mark
abbrev pub first_shown : List ℕ → Option ℕ
first_shown bytes = find (λ b. not (is_ascii_whitespace b)) (strip_bom bytes)

-- the format of a file, by its name and else by its first byte
abbrev pub format_told : List ℕ → List ℕ → RecordFormat
format_told name bytes = unwrap_or (format_of_name name) (format_of_first (first_shown bytes))
