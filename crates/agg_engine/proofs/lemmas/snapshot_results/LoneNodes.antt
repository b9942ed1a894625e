-- A node that stands alone in a context.
use Rattle.std.proofs.Common.{◌≡◌, ◌<◌, ℕ, List, [], Some, get_or, length, map, sym, ap, ◌∙◌}
use Rattle.std.specs.Prelude.{slice_get}
use Rattle.agg_composite.specs.declared.accessor.request_data.CompositeAggReqData.{
  CompositeAggReqData,
}
use Rattle.agg_engine_tree.specs.segment_context.Plan.{Plan, Plans, plan_of, plans_of}
use Rattle.agg_engine_tree.specs.declared.segment_context.context.PerRequestAggSegCtx.{
  PerRequestAggSegCtx,
}
use Rattle.agg_engine_tree.specs.declared.segment_context.node.AggKind.TheVariants as kind
use Rattle.agg_engine_tree.specs.declared.segment_context.node.AggRefNode.{AggRefNode}
use Rattle.agg_engine_tree.specs.declared.segment_context.node.AggRefNode.TheViews.{out-AggRefNode}
use Rattle.agg_engine_tree.proofs.lemmas.segment_context.Views.{plan-out}
use Rattle.agg_engine.specs.snapshot_results.Lone.{IsLone}
use Rattle.agg_engine.proofs.lemmas.snapshot_results.Contexts.{no-item, only-item}

-- data is that of a lone composite, where its node is the only one and has no children
pub lone-read : (ctx : PerRequestAggSegCtx) (nodes : List AggRefNode) (node : AggRefNode)
    (req : CompositeAggReqData) → nodes ≡ ctx.agg_tree → length nodes ≡ 1
    → node ≡ get_or nodes 0 node → (out-AggRefNode node).kind ≡ kind.Composite
    → length (out-AggRefNode node).children < 1
    → slice_get ctx.composite_req_data (out-AggRefNode node).idx_in_req_data ≡ Some req
    → length req.req.now.sources ≡ 1 → IsLone ctx req
lone-read ctx nodes node req are many first composite none at one =
    let index : ℕ = (out-AggRefNode node).idx_in_req_data in
    let below : (out-AggRefNode node).children ≡ [] = no-item (out-AggRefNode node).children none in
    record {
      index = index;
      node =
          ap (λ (ns : List AggRefNode). plans_of (map plan_of ns))
          (sym are ∙ only-item nodes node many first)
          ∙ ap (λ p. Plans.more p Plans.none)
          (plan-out node
          ∙ (λ i. Plan.node (composite i) index (plans_of (map plan_of (below i)))));
      at = at;
      one = one;
    }
