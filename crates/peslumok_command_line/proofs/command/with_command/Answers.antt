use Rattle.std.proofs.Common.{refl}
use Rattle.std.proofs.lemmas.Result.{IfOk-weaker}
use Rattle.peslumok_command_line.proofs.Added.{adds_command}
use Rattle.peslumok_command_line.proofs.command.with_command.Goals as goal

pub returns : goal.returns
returns c =
    IfOk-weaker c.subcommand.result _ _
    (λ new adds. adds_command _ _ _ _ _ adds c.in_ok-below.ensures.local refl
    c.in_ok-below.ensures.app)
    c.subcommand.ensures
