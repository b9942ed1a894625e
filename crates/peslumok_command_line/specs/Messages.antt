-- What is written of a mistake.
use Rattle.std.specs.Prelude.{ℕ, List, ◌++◌, Option, Some, None, codes}
use Rattle.peslumok_command_line.specs.declared.error.CommandLineError.{CommandLineError}
use Rattle.peslumok_command_line.specs.declared.error.CommandLineError.TheVariants as error

-- where to find help
abbrev pub more : List ℕ
more = codes "\n\nFor more information, try '--help'.\n"

-- `--top` beside another option
abbrev pub conflict_with : List ℕ → List ℕ
conflict_with option =
    codes "error: the argument '--top <N>' cannot be used with '" ++ (option ++ (codes "'" ++ more))

-- the text of a mistake, where clap or a cause that it tells has no part in it
abbrev pub message_of : CommandLineError → Option (List ℕ)
message_of error.NoCommand = Some (codes
    "error: no command is named; expected 'group', 'request', 'walk' or 'check'" ++ more)
message_of error.TooManyBy =
    Some (codes "error: '--by <SPEC>' may be used 16 times at most" ++ more)
message_of error.TopWithAfter = Some (conflict_with (codes "--after <VALUES>"))
message_of error.TopWithAll = Some (conflict_with (codes "--all"))
message_of error.OutOfMemory = Some (codes "error: out of memory\n")
message_of _ = None
