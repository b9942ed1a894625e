use Rattle.std.proofs.Common.{map, subst, sym}
use Rattle.agg_engine_tree.specs.segment_context.Plan.{plan_of, plans_of}
use Rattle.agg_engine_tree.specs.collector_tree.New.{HaveData}
use Rattle.agg_engine_tree.proofs.lemmas.collector_tree.ContextData.{all-data}
use Rattle.agg_engine_tree.proofs.collector_tree.growing.tree_for.Goals as goal

pub trees_for-requires : goal.trees_for-requires
trees_for-requires c =
    let r = c.requires in
    subst (λ nodes. HaveData c.args.ctx.now (plans_of (map plan_of nodes))) (sym c.as_slice.ensures)
    (all-data r.0 c.args.ctx.now r.2.meant r.1 (plans_of (map plan_of c.args.ctx.now.agg_tree))
    r.2.tree)
