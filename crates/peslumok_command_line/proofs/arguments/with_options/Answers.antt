use Rattle.std.proofs.Common.{ap, map, List, subst}
use Rattle.std.proofs.lemmas.Result.{IfOk-weaker}
use Rattle.clap.specs.Words.{Rule}
use Rattle.peslumok_command_line.specs.Adds.{AddsRules}
use Rattle.peslumok_command_line.specs.CommandLine.{format_rules, named_rules}
use Rattle.peslumok_command_line.specs.OptionRules.{option_rule}
use Rattle.peslumok_command_line.proofs.Added.{adds_both}
use Rattle.peslumok_command_line.proofs.arguments.with_options.Goals as goal

pub returns : goal.returns
returns c =
    let named = subst (λ (rules : List Rule). AddsRules rules c.args.command c.in_ok-named.named)
    (ap (map option_rule) c.as_slice.ensures) c.in_ok-named.ensures in
    IfOk-weaker c.with_formats.result _ _
    (λ new added. adds_both _ _ new named_rules
    (format_rules c.args.formats.inputs c.args.formats.outputs) named added)
    c.with_formats.ensures
