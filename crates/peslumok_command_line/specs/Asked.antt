-- What the matches of a command ask.
use Rattle.std.specs.Prelude.{◌≡◌, ◌≤◌, ◌<◌, ◌^◌, ℕ, List, [], ◌++◌, length, map, codes}
use Rattle.std.specs.Prelude.{Bool, true, false, if◌then◌else◌, Option, Some, None, option_map}
use Rattle.std.specs.Prelude.{option_and_then, unwrap_or}
use Rattle.std.specs.Prelude.{IfSome, IsSome}
use Rattle.std.specs.Borrow.{Bor}
use Rattle.std.specs.List.{AllZip}
use Rattle.std.specs.Str.{bytes_eq}
use Rattle.std.specs.Str.Parse.{IsNumeral, digits_value, without_leading_plus}
use Rattle.clap.specs.Words.{Row, Text, all_of, first_of, one_of}
use Rattle.peslumok_texts.specs.words.By as by_text
use Rattle.peslumok_texts.specs.words.Condition as condition_text
use Rattle.peslumok_texts.specs.words.DateField as date_text
use Rattle.peslumok_texts.specs.words.DecimalField.{IsDecimalField}
use Rattle.peslumok_texts.specs.declared.words.by.BySpec.{BySpec}
use Rattle.peslumok_texts.specs.declared.words.condition.Condition.{Condition}
use Rattle.peslumok_texts.specs.declared.words.date_field.DateField.{DateField}
use Rattle.peslumok_texts.specs.declared.words.decimal_field.DecimalField.{DecimalField}
use Rattle.peslumok_command_line.specs.declared.options.Chosen.{Chosen}
use Rattle.peslumok_command_line.specs.declared.options.Chosen.TheVariants as chosen
use Rattle.peslumok_command_line.specs.declared.options.GroupOptions.{GroupOptions}
use Rattle.peslumok_texts.specs.declared.formats.RecordFormat.{RecordFormat}
use Rattle.peslumok_texts.specs.declared.formats.RecordFormat.TheVariants as input
use Rattle.peslumok_texts.specs.declared.words.metric.Metric.{Metric}
use Rattle.peslumok_texts.specs.declared.words.metric.MetricKind.{MetricKind}
use Rattle.peslumok_texts.specs.declared.words.metric.MetricKind.TheVariants.{Count, Sum, Min, Max}
use Rattle.peslumok_texts.specs.declared.formats.OutputFormat.{OutputFormat}
use Rattle.peslumok_texts.specs.declared.formats.OutputFormat.TheVariants as output

-- the values of all uses of an option
abbrev pub texts_of : Text → List Row → List Text
texts_of id rows = unwrap_or (all_of id rows) []

-- what a contract sees of a column
abbrev pub column : Metric → MetricKind × Text
column c = (c.kind, c.field.now)

-- the columns of a kind
abbrev pub columns_of : MetricKind → List Text → List (MetricKind × Text)
columns_of kind fields = map (λ field. (kind, field)) fields

-- the columns in the order of their kinds
abbrev pub all_columns : List Row → List (MetricKind × Text)
all_columns rows =
    columns_of Count (texts_of (codes "count") rows)
    ++ columns_of Sum (texts_of (codes "sum") rows)
    ++ columns_of Min (texts_of (codes "min") rows)
    ++ columns_of Max (texts_of (codes "max") rows)

-- the format of records by its name
abbrev pub record_format_of : Text → Option RecordFormat
record_format_of name =
    if bytes_eq name (codes "jsonl") then Some input.JsonLines
    else if bytes_eq name (codes "json") then Some input.Json
    else if bytes_eq name (codes "csv") then Some input.Csv
    else if bytes_eq name (codes "tsv") then Some input.Tsv
    else None

-- the format of groups by its name
abbrev pub output_format_of : Text → Option OutputFormat
output_format_of name =
    if bytes_eq name (codes "table") then Some output.Table
    else if bytes_eq name (codes "jsonl") then Some output.JsonLines
    else if bytes_eq name (codes "csv") then Some output.Csv
    else None

-- a flag is set where its value is `true`, and else isn't
pub record ReadsFlag (id : Text) (rows : List Row) (flag : Bool) : Type 0 where
  pub is_set : one_of id rows ≡ Some (codes "true") → flag ≡ true
  pub is_unset : one_of id rows ≡ Some (codes "false") → flag ≡ false
  pub is_absent : one_of id rows ≡ None → flag ≡ false

-- a number is the one that the digits of an option's value write
abbrev pub ReadsNumber : Text → List Row → ℕ → Type 0
ReadsNumber id rows number =
    (text : Text) → one_of id rows ≡ Some text
    → IsNumeral 10 (without_leading_plus text)
    → digits_value 10 (without_leading_plus text) < 2 ^ 32
    → number ≡ digits_value 10 (without_leading_plus text)

-- there is a number where the option is used, which is the one that its digits write
pub record ReadsOptionalNumber (id : Text) (rows : List Row) (number : Option ℕ) : Type 0 where
  pub is_absent : one_of id rows ≡ None → number ≡ None
  pub value : IfSome number (ReadsNumber id rows)

-- a text of `--by` stands for this
abbrev pub ReadsBy : Text → BySpec → Type 0
ReadsBy text by = by_text.by_of text ≡ Some (by_text.parts by)

-- a text of `--where` stands for this
abbrev pub ReadsCondition : Text → Condition → Type 0
ReadsCondition text condition =
    condition_text.condition_of text ≡ Some (condition_text.parts condition)

-- a text of `--date` stands for this
abbrev pub ReadsDate : Text → DateField → Type 0
ReadsDate text date = date_text.date_field_of text ≡ Some (date_text.parts date)

-- a text of `--decimal` stands for this
abbrev pub ReadsDecimal : Text → DecimalField → Type 0
ReadsDecimal text decimal = IsDecimalField text decimal.field.now decimal.places

-- the groups with the most documents begin at the first group, and have no further page
abbrev pub IsAlone : GroupOptions → Type 0
IsAlone options = IsSome options.top → (options.after ≡ None) × (options.is_all ≡ false)

-- the options are what the matches ask
pub record Asks (rows : List Row) (options : GroupOptions) : Type 0 where
  pub files : map (λ file. file.now) options.files.items ≡ texts_of (codes "file") rows
  pub by : AllZip ReadsBy (texts_of (codes "by") rows) options.by.items
  pub few : length options.by.items ≤ 16
  pub conditions : AllZip ReadsCondition (texts_of (codes "where") rows) options.conditions.items
  pub query : option_map (λ text. text.now) options.query ≡ first_of (codes "query") rows
  pub metrics : map column options.metrics.items ≡ all_columns rows
  pub total : ReadsFlag (codes "total") rows options.has_total
  pub size : ReadsNumber (codes "size") rows options.size
  pub after : option_map (λ text. text.now) options.after ≡ first_of (codes "after") rows
  pub all : ReadsFlag (codes "all") rows options.is_all
  pub top : ReadsOptionalNumber (codes "top") rows options.top
  pub alone : IsAlone options
  pub dates : AllZip ReadsDate (texts_of (codes "date") rows) options.dates.items
  pub decimals : AllZip ReadsDecimal (texts_of (codes "decimal") rows) options.decimals.items
  pub texts : map (λ field. field.now) options.texts.items ≡ texts_of (codes "text") rows
  pub from : options.from ≡ option_and_then record_format_of (first_of (codes "from") rows)
  pub to : options.to ≡ option_and_then output_format_of (first_of (codes "to") rows)

-- the matches of one file ask for it, or for standard input where it is none
abbrev pub AsksFile : List Row → Option (Bor Text) → Type 0
AsksFile rows file = option_map (λ name. name.now) file ≡ first_of (codes "file") rows

-- the name of the command that was chosen
abbrev pub command_name : Chosen → Text
command_name (chosen.Group _) = codes "group"
command_name (chosen.Request _) = codes "request"
command_name (chosen.Walk _) = codes "walk"
command_name (chosen.Check _) = codes "check"

-- the matches of the command that was chosen ask this
abbrev pub AsksChosen : List Row → Chosen → Type 0
AsksChosen rows (chosen.Group options) = Asks rows options
AsksChosen rows (chosen.Request options) = Asks rows options
AsksChosen rows (chosen.Walk file) = AsksFile rows file
AsksChosen rows (chosen.Check file) = AsksFile rows file

-- the words chose this command, and ask this of it
abbrev pub IsAsked : Option (Text × List Row) → Chosen → Type 0
IsAsked None asked = ⊥
IsAsked (Some (name, rows)) asked = (name ≡ command_name asked) × AsksChosen rows asked
