use Rattle.std.proofs.Common.{◌≡◌, [], ◌∷◌, ◌++◌, Some, ap, map, sym, subst, ◌∙◌}
use Rattle.std.proofs.lemmas.Result.{on_ok_weaker}
use Rattle.agg_request_tree.specs.Request.{below_of}
use Rattle.agg_engine_tree.specs.segment_context.Context.{ArePlansOf}
use Rattle.agg_engine_tree.specs.segment_context.Plan.{plan_of, plans_of}
use Rattle.agg_engine_tree.proofs.lemmas.segment_context.Views.{AreShown-all, AreShown-more}
use Rattle.agg_engine_tree.proofs.lemmas.segment_context.Views.{plan-below, plan-word, view-made}
use Rattle.agg_engine_tree.proofs.segment_context.context.PerRequestAggSegCtx.+views.Goals as goal

pub add_view-returns : goal.add_view-returns
add_view-returns t c =
    on_ok_weaker c.push.result
    (λ pushed meaning name a is.
    let named : Some c.in-Some.name.now ≡ Some name =
    c.in-Some.ensures.request meaning name a is in
    let own : c.in-Some.name.now ≡ name = cc in
    pushed ∙ ap (λ v. c.args.views.now ++ v ∷ [])
    (view-made a name c.in_ok-try_clone.field-0 c.in_ok-copy_of.field-0
    c.in_ok-view_nodes.field-0 (c.in_ok-try_clone.ensures ∙ own)
    (c.in_ok-copy_of.ensures ∙ c.kind_word.ensures
    ∙ plan-word meaning c.args.self.now name a c.args.node.now is)
    (c.in_ok-view_nodes.ensures meaning (below_of a)
    (subst (λ ns. ArePlansOf meaning c.args.self.now (below_of a) (plans_of (map plan_of ns)))
    (sym c.as_slice.ensures) (plan-below meaning c.args.self.now name a c.args.node.now is)))))
    c.push.ensures.ok

pub view_nodes-loop-node-preserved : goal.view_nodes-loop-node-preserved
view_nodes-loop-node-preserved t c =
    AreShown-more c.args.self.now c.args.nodes.now c.loop-node.node-index c.node-item.result
    c.loop-node.views c.add_view.new.views c.loop-node.invariant c.loop-node-test.true
    c.node-item.is c.in_ok-add_view.ensures

pub view_nodes-returns : goal.view_nodes-returns
view_nodes-returns t c =
    AreShown-all c.args.self.now c.args.nodes.now c.loop-node.node-index c.loop-node.views
    c.loop-node.invariant c.loop-node-test.false
