-- What a parse reads of an option.
use Rattle.std.specs.Prelude.{List, [], ◌∷◌, pos, Some, true}
use Rattle.std.specs.Borrow.{Bor}
use Rattle.clap.specs.Words.{Rule, Text, new_rule}
use Rattle.clap.specs.declared.builder.ArgAction.TheVariants.{Append, SetTrue}
use Rattle.clap.specs.declared.builder.value_parser.ValueParser.TheVariants as vp
use Rattle.peslumok_command_line.specs.declared.named_option.NamedOption.{NamedOption}
use Rattle.peslumok_command_line.specs.declared.named_option.Usage.{Usage}
use Rattle.peslumok_command_line.specs.declared.named_option.Usage.TheVariants as usage

-- an option that is used once, with a value
abbrev pub one_rule : Text → Rule
one_rule name = record (new_rule name) { long = Some name; value_names = 1 }

-- an option that may be used many times, each time with a value
abbrev pub many_rule : Text → Rule
many_rule name = record (one_rule name) { action = Some Append }

-- an option that is used once, with a number from 1 to what 32 bits hold
abbrev pub number_rule : Text → Rule
number_rule name = record (one_rule name) { parser = Some (vp.Signed (pos 1) (pos 4294967295)) }

-- an option without a value
abbrev pub flag_rule : Text → Rule
flag_rule name = record (new_rule name) { long = Some name; action = Some SetTrue }

-- names, wherever they lie
abbrev pub Names : Type 0
Names = Bor (List (Bor Text))

-- an option whose value is one of these names
abbrev pub choice_rule : Text → Names → Rule
choice_rule name names = record (one_rule name) { parser = Some (vp.Names names) }

-- an option of this name that is used so
abbrev pub usage_rule : Text → Usage → Rule
usage_rule name usage.Required = record (many_rule name) { required = true }
usage_rule name usage.Many = many_rule name
usage_rule name usage.Once = one_rule name
usage_rule name usage.Number = number_rule name
usage_rule name (usage.NumberOr default) =
    record (number_rule name) { defaults = default.now ∷ [] }
usage_rule name usage.Flag = flag_rule name

-- the rule of an option
abbrev pub option_rule : NamedOption → Rule
option_rule option = usage_rule option.name.now option.usage
