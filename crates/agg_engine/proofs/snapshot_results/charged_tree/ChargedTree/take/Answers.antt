use Rattle.std.proofs.Common.{refl}
use Rattle.std.proofs.lemmas.Result.{IfErr-weaker}
use Rattle.agg_engine_tree.specs.collector_tree.Call.{is_flush, pairs_in}
use Rattle.agg_engine.specs.snapshot_results.ChargedTrees.{IsChargeCause, IsHeldCause}
use Rattle.agg_engine.specs.declared.snapshot_results.charged_tree.ChargedTree.{ChargedTree}
use Rattle.agg_engine.proofs.lemmas.snapshot_results.ChargedTrees.{cause-taken, grown-taken}
use Rattle.agg_engine.proofs.snapshot_results.charged_tree.ChargedTree.take.Goals as goal

pub charge_growth-requires-clause-grown : goal.charge_growth-requires-clause-grown
charge_growth-requires-clause-grown g c =
    let old : ChargedTree = c.args.self.now in
    let mid : ChargedTree = record c.args.self.now { tree = c.take.new.tree } in
    grown-taken c.args.ctx.now (pairs_in c.args.call) old mid c.args.limits.now
    (is_flush c.args.call) c.args.steps.now c.take.new.steps c.in_ok-take.ensures.takes refl refl
    c.requires.exact

pub returns-clause-cause : goal.returns-clause-cause
returns-clause-cause g c =
    let ctx = c.args.ctx.now in
    let pairs = pairs_in c.args.call in
    let old : ChargedTree = c.args.self.now in
    let mid : ChargedTree = record c.args.self.now { tree = c.take.new.tree } in
    let limits = c.args.limits.now in
    IfErr-weaker c.charge_growth.result (IsHeldCause ctx mid limits)
    (IsChargeCause ctx pairs old limits)
    (cause-taken ctx pairs old mid limits (is_flush c.args.call) c.args.steps.now c.take.new.steps
    c.in_ok-take.ensures.takes refl refl) c.charge_growth.ensures.cause
