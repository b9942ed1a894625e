use Rattle.std.proofs.Common.{map, take}
use Rattle.peslumok_command_line.specs.Adds.{AddsRules}
use Rattle.peslumok_command_line.specs.OptionRules.{option_rule}
use Rattle.peslumok_command_line.proofs.arguments.with_named.Given as goal

abbrev pub invariant-loop-option : goal.invariant-loop-option
invariant-loop-option l =
    AddsRules (map option_rule (take l.option-index l.options)) l.fn.command l.grown
