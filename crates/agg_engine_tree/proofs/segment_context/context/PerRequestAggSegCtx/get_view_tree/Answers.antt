use Rattle.std.proofs.Common.{map, subst, sym}
use Rattle.std.proofs.lemmas.Result.{IfOk-weaker}
use Rattle.agg_engine_tree.specs.segment_context.Context.{ArePlansOf}
use Rattle.agg_engine_tree.specs.segment_context.Plan.{plan_of, plans_of}
use Rattle.agg_engine_tree.proofs.lemmas.segment_context.Views.{AreShown, IsShown}
use Rattle.agg_engine_tree.proofs.segment_context.context.PerRequestAggSegCtx.get_view_tree.Goals
    as goal

pub returns : goal.returns
returns c =
    IfOk-weaker c.view_nodes.result (AreShown c.args.self.now c.as_slice.result.now)
    (IsShown c.args.self.now)
    (λ views shown meaning request is. shown meaning request
    (subst (λ ns. ArePlansOf meaning c.args.self.now request (plans_of (map plan_of ns)))
    (sym c.as_slice.ensures) is.tree)) c.view_nodes.ensures
