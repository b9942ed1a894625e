-- The commands of the program, by their names.
use Rattle.std.specs.Prelude.{codes}
use Rattle.clap.specs.Words.{App}
use Rattle.peslumok_command_line.specs.CommandLine.{file_app, group_app, request_app}
use Rattle.peslumok_command_line.specs.OptionRules.{Names}
use Rattle.peslumok_command_line.specs.declared.command.Subcommand.{Subcommand}
use Rattle.peslumok_command_line.specs.declared.command.Subcommand.TheVariants.{Group, Request}
use Rattle.peslumok_command_line.specs.declared.command.Subcommand.TheVariants.{Walk, Check}

-- a command of the program
abbrev pub subcommand_app : Subcommand → Names → Names → App
subcommand_app Group inputs outputs = group_app inputs outputs
subcommand_app Request inputs outputs = request_app inputs outputs
subcommand_app Walk inputs outputs = file_app (codes "walk")
subcommand_app Check inputs outputs = file_app (codes "check")
