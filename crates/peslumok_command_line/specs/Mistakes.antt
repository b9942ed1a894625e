-- What is wrong with the values of options.
use Rattle.std.specs.Prelude.{◌≡◌, ◌≢◌, ◌⊎◌, ◌<◌, ⊤, ℕ, List}
use Rattle.std.specs.Prelude.{Bool, true, false, Option, Some, None, length}
use Rattle.std.specs.Prelude.{Contains, IsSome, codes}
use Rattle.clap.specs.Words.{Row, Text, first_of, kind_of, subcommand_of}
use Rattle.clap.specs.declared.error.ErrorKind.TheVariants.{DisplayHelp, DisplayVersion}
use Rattle.peslumok_texts.specs.words.By.{IsByFault, by_of}
use Rattle.peslumok_texts.specs.words.Condition.{IsConditionFault, condition_of}
use Rattle.peslumok_texts.specs.words.DateField.{IsDateFieldFault, date_field_of}
use Rattle.peslumok_texts.specs.words.DecimalField.{IsDecimalField, IsDecimalFieldFault}
use Rattle.peslumok_command_line.specs.Asked.{ReadsFlag, ReadsOptionalNumber, texts_of}
use Rattle.peslumok_command_line.specs.CommandLine.{Formats, peslumok}
use Rattle.peslumok_command_line.specs.declared.error.CommandLineError.{CommandLineError}
use Rattle.peslumok_command_line.specs.declared.error.CommandLineError.TheVariants as error

-- `--top` is used
abbrev pub HasTop : List Row → Type 0
HasTop rows = (number : ℕ) × ReadsOptionalNumber (codes "top") rows (Some number)

-- an error is of these matches: the text that it names is among them, and is none of its kind, for
-- the cause that it tells
abbrev pub Tells : List Row → CommandLineError → Type 0
Tells rows (error.By text why) =
    Contains (texts_of (codes "by") rows) text.now × (by_of text.now ≡ None)
    × IsByFault text.now why
Tells rows error.TooManyBy = 16 < length (texts_of (codes "by") rows)
Tells rows error.TopWithAfter = HasTop rows × IsSome (first_of (codes "after") rows)
Tells rows error.TopWithAll = HasTop rows × ReadsFlag (codes "all") rows true
Tells rows (error.Where text why) =
    Contains (texts_of (codes "where") rows) text.now × (condition_of text.now ≡ None)
    × IsConditionFault text.now why
Tells rows (error.Date text why) =
    Contains (texts_of (codes "date") rows) text.now × (date_field_of text.now ≡ None)
    × IsDateFieldFault text.now why
Tells rows (error.Decimal text why) =
    Contains (texts_of (codes "decimal") rows) text.now
    × ((field : Text) (places : ℕ) → ¬ IsDecimalField text.now field places)
    × IsDecimalFieldFault text.now why
Tells rows error.OutOfMemory = ⊤
Tells rows error.NoCommand = ⊥
Tells rows (error.Shown message) = ⊥

-- help or the version was asked
abbrev pub IsHelp : CommandLineError → Type 0
IsHelp (error.Shown message) =
    (kind_of message ≡ DisplayHelp) ⊎ (kind_of message ≡ DisplayVersion)
IsHelp _ = ⊥

-- an error is this program's own: none of clap's, and memory didn't run out
abbrev pub is_own : CommandLineError → Bool
is_own (error.Shown message) = false
is_own error.NoCommand = true
is_own error.OutOfMemory = false
is_own error.TooManyBy = true
is_own error.TopWithAfter = true
is_own error.TopWithAll = true
is_own (error.By text why) = true
is_own (error.Where text why) = true
is_own (error.Date text why) = true
is_own (error.Decimal text why) = true

-- a name is none of the commands
pub record IsNoCommand (name : Text) : Type 0 where
  pub group : name ≢ codes "group"
  pub request : name ≢ codes "request"
  pub walk : name ≢ codes "walk"
  pub check : name ≢ codes "check"

-- the words chose no command, or else `group` or `request`, and the error is of its values
abbrev pub TellsOf : Option (Text × List Row) → CommandLineError → Type 0
TellsOf None told = told ≡ error.NoCommand
TellsOf (Some (name, rows)) told =
    ((told ≡ error.NoCommand) × IsNoCommand name)
    ⊎ (((name ≡ codes "group") ⊎ (name ≡ codes "request")) × Tells rows told)

-- an error of this program's own is of what the words give
abbrev pub IsTold : List Text → CommandLineError → Type 0
IsTold words told =
    is_own told ≡ true
    → (formats : Formats) × TellsOf (subcommand_of (peslumok formats) words) told
