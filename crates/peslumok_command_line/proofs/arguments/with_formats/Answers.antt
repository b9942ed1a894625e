use Rattle.std.proofs.Common.{[], ◌∷◌, codes}
use Rattle.std.proofs.lemmas.Result.{IfOk-weaker}
use Rattle.peslumok_command_line.specs.OptionRules.{choice_rule}
use Rattle.peslumok_command_line.proofs.Added.{adds_last, adds_none}
use Rattle.peslumok_command_line.proofs.arguments.with_formats.Goals as goal

pub returns : goal.returns
returns c =
    let from = choice_rule (codes "from") c.args.formats.inputs in
    let to = choice_rule (codes "to") c.args.formats.outputs in
    IfOk-weaker c.arg-2.result _ _
    (λ new added. adds_last _ _ _ _ (from ∷ []) to
    (adds_last _ _ _ _ [] from (adds_none _) c.in_ok-from.ensures c.choice.ensures.local
    c.choice.ensures.rule)
    added c.choice-2.ensures.local c.choice-2.ensures.rule)
    c.arg-2.ensures
