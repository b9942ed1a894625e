-- A command that gains arguments.
use Rattle.std.specs.Prelude.{◌≡◌, List, false}
use Rattle.clap.specs.Words.{Rule, app_of}
use Rattle.clap.specs.declared.builder.command.Command.{Command}
use Rattle.clap.specs.declared.builder.command.Command.TheViews.{out-Command}
use Rattle.peslumok_command_line.specs.CommandLine.{with_rules}

-- no argument of a command is one of its subcommands too
abbrev pub HasNoGlobals : Command → Type 0
HasNoGlobals command = (out-Command command).has_globals ≡ false

-- `new` is `old` with further arguments, none of them global
pub record AddsRules (rules : List Rule) (old new : Command) : Type 0 where
  pub app : app_of new ≡ with_rules (app_of old) rules
  pub local : HasNoGlobals old → HasNoGlobals new
