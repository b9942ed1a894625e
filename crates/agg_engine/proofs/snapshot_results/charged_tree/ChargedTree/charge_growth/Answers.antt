use Rattle.std.proofs.Common.{◌-◌, IfErr, subst}
use Rattle.std.proofs.lemmas.Result.{IfErr-weaker}
use Rattle.agg_engine.specs.snapshot_results.ChargedTrees.{IsFixedCause, IsHeldCause}
use Rattle.agg_engine.proofs.lemmas.snapshot_results.ChargedTrees.{cause-growth, cause-past}
use Rattle.agg_engine.proofs.snapshot_results.charged_tree.ChargedTree.charge_growth.Goals as goal

pub returns-in_default-clause-cause : goal.returns-in_default-clause-cause
returns-in_default-clause-cause c =
    cause-past c.args.ctx.now c.args.self.now c.args.limits.now c.past_64_bits.ensures.low
    c.requires.charged c.in_default.ensures c.past_64_bits.result c.past_64_bits.ensures.told

pub returns-clause-cause : goal.returns-clause-cause
returns-clause-cause c =
    let bytes = c.in-Some.bytes in
    let limits = c.args.limits.now in
    IfErr-weaker c.charge_bytes.result (IsFixedCause (bytes - c.args.self.now.guard) limits)
    (IsHeldCause c.args.ctx.now c.args.self.now limits)
    (cause-growth c.args.ctx.now c.args.self.now limits bytes c.in-Some.ensures
    c.requires.grown)
    (subst (λ n. IfErr c.charge_bytes.result (IsFixedCause (bytes - n) limits))
    c.allocated.ensures c.charge_bytes.ensures.cause)
