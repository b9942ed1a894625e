-- The command line as data: what a parse reads of the command.
use Rattle.std.specs.Prelude.{◌≡◌, List, [], ◌∷◌, ◌++◌, map, Some, true, codes}
use Rattle.clap.specs.Words.{App, Rule, Text, new_app, new_rule, with_subcommand}
use Rattle.clap.specs.declared.builder.ArgAction.TheVariants.{Append}
use Rattle.peslumok_command_line.specs.OptionRules.{Names, choice_rule, flag_rule, many_rule}
use Rattle.peslumok_command_line.specs.OptionRules.{number_rule, one_rule}

-- a command with further arguments
abbrev pub with_rules : App → List Rule → App
with_rules app rules = record app { top = record app.top { rules = app.top.rules ++ rules } }

-- the file of `walk` and `check`
abbrev pub file_rule : Rule
file_rule = record (new_rule (codes "file")) { value_names = 1 }

-- the files of `group`
abbrev pub files_rule : Rule
files_rule = record file_rule { action = Some Append }

-- `--by`, which has to be used
abbrev pub by_rule : Rule
by_rule = record (many_rule (codes "by")) { required = true }

-- `--size`, 20 where it is not used
abbrev pub size_rule : Rule
size_rule = record (number_rule (codes "size")) { defaults = codes "20" ∷ [] }

-- the options but those whose value is the name of a format
abbrev pub named_rules : List Rule
named_rules =
    by_rule ∷ many_rule (codes "where") ∷ one_rule (codes "query")
    ∷ many_rule (codes "count") ∷ many_rule (codes "sum") ∷ many_rule (codes "min")
    ∷ many_rule (codes "max") ∷ flag_rule (codes "total")
    ∷ size_rule ∷ one_rule (codes "after") ∷ flag_rule (codes "all") ∷ number_rule (codes "top")
    ∷ many_rule (codes "date") ∷ many_rule (codes "decimal") ∷ many_rule (codes "text") ∷ []

-- how records and groups are written
abbrev pub format_rules : Names → Names → List Rule
format_rules inputs outputs =
    choice_rule (codes "from") inputs ∷ choice_rule (codes "to") outputs ∷ []

-- the options of `group` and `request`
abbrev pub all_options : Names → Names → List Rule
all_options inputs outputs = named_rules ++ format_rules inputs outputs

-- `group` and its arguments
abbrev pub group_app : Names → Names → App
group_app inputs outputs =
    with_rules (new_app (codes "group")) (files_rule ∷ all_options inputs outputs)

-- `request` and its arguments
abbrev pub request_app : Names → Names → App
request_app inputs outputs = with_rules (new_app (codes "request")) (all_options inputs outputs)

-- a command of this name with one file
abbrev pub file_app : Text → App
file_app name = with_rules (new_app name) (file_rule ∷ [])

-- the program before it has a command
abbrev pub bare_app : App
bare_app = record (new_app (codes "peslumok")) {
  top = record (new_app (codes "peslumok")).top {
    has_version = true;
    propagate_version = true;
    subcommand_required = true;
    arg_required_else_help = true;
  };
}

-- the names of the formats of records
abbrev pub input_names : List Text
input_names = codes "jsonl" ∷ codes "json" ∷ codes "csv" ∷ codes "tsv" ∷ []

-- the names of the formats of groups
abbrev pub output_names : List Text
output_names = codes "table" ∷ codes "jsonl" ∷ codes "csv" ∷ []

-- the names of the formats, wherever they lie
pub record Formats : Type 0 where
  pub inputs : Names
  pub outputs : Names
  pub are_inputs : map (λ name. name.now) inputs.now ≡ input_names
  pub are_outputs : map (λ name. name.now) outputs.now ≡ output_names

-- the program
abbrev pub peslumok : Formats → App
peslumok formats =
    with_subcommand
    (with_subcommand
    (with_subcommand
    (with_subcommand bare_app (group_app formats.inputs formats.outputs).top)
    (request_app formats.inputs formats.outputs).top)
    (file_app (codes "walk")).top) (file_app (codes "check")).top
