use Rattle.peslumok_command_line.proofs.Added.{adds_next}
use Rattle.peslumok_command_line.proofs.arguments.with_named.Goals as goal

pub loop-option-preserved : goal.loop-option-preserved
loop-option-preserved c =
    adds_next _ _ _ c.argument.result c.args.options.now c.loop-option.option-index _
    c.loop-option-test.true c.loop-option.invariant c.in_ok-grown.ensures
    c.argument.ensures.local c.argument.ensures.rule
