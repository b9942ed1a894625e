use Rattle.std.proofs.Common.{◌∙◌, ap}
use Rattle.std.proofs.lemmas.Result.{IfOk-weaker}
use Rattle.clap.specs.Words.{App, with_subcommand}
use Rattle.peslumok_command_line.specs.Subcommands.{subcommand_app}
use Rattle.peslumok_command_line.specs.declared.command.Subcommand.{Subcommand}
use Rattle.peslumok_command_line.specs.declared.command.Subcommand.TheVariants.{Group, Request}
use Rattle.peslumok_command_line.specs.declared.command.Subcommand.TheVariants.{Walk, Check}
use Rattle.peslumok_command_line.proofs.command.root.Goals as goal

pub returns : goal.returns
returns c =
    let names = c.format_names-formats.result in
    let is = c.format_names-formats.ensures in
    let below : Subcommand → App → App =
    λ kind app. with_subcommand app (subcommand_app kind names.inputs names.outputs).top in
    let requested = c.in_ok-requested.ensures ∙ ap (below Request)
    (c.in_ok-grouped.ensures ∙ ap (below Group) c.in_ok-bare.ensures) in
    let walked = c.in_ok-walked.ensures ∙ ap (below Walk) requested in
    IfOk-weaker c.with_command-4.result _ _
    (λ command checked. (
      record {
        inputs = names.inputs;
        outputs = names.outputs;
        are_inputs = is.inputs;
        are_outputs = is.outputs;
      },
      checked ∙ ap (below Check) walked,
    ))
    c.with_command-4.ensures
