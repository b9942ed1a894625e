use Rattle.std.proofs.Common.{◌≡◌, ◌≤◌, ◌+◌, ◌++◌, ◌∷◌, [], List, get_or, length, map, take, refl}
use Rattle.std.proofs.Common.{sym, ap, ◌∙◌, subst, arith, rules}
use Rattle.std.proofs.lemmas.List.{map-append, take_all, take_more}
use Rattle.std.proofs.lemmas.Option.{slice_get_within}
use Rattle.agg_composite.specs.declared.accessor.request_data.CompositeAggReqData.{
  CompositeAggReqData,
}
use Rattle.agg_request_tree.specs.Faults.{max_sources}
use Rattle.agg_engine_tree.specs.segment_context.Plan.{plan_of, plans_of}
use Rattle.agg_engine_tree.specs.declared.segment_context.node.AggKind.TheVariants as kind
use Rattle.agg_engine_tree.specs.declared.segment_context.node.AggRefNode.{the_lemmas}
use Rattle.agg_engine_tree.specs.declared.segment_context.node.AggRefNode.TheViews.{out-AggRefNode}
use Rattle.agg_engine_tree.specs.collector_tree.New.{HasData, IsNew}
use Rattle.agg_engine_tree.specs.collector_tree.Tree.{Held, IsGroupOf, group_of, held_of, helds_of}
use Rattle.agg_engine_tree.proofs.lemmas.collector_tree.Levels.{held-composite, held-filter}
use Rattle.agg_engine_tree.proofs.lemmas.collector_tree.Levels.{held-group, held-metric}
use Rattle.agg_engine_tree.proofs.lemmas.collector_tree.NewTrees.{data-each, group-more, handed-new}
use Rattle.agg_engine_tree.proofs.lemmas.collector_tree.NewTrees.{new-composite, new-filter}
use Rattle.agg_engine_tree.proofs.lemmas.collector_tree.NewTrees.{new-metric, new-more, plan-is}
use Rattle.agg_engine_tree.proofs.lemmas.collector_tree.NodeData.{read-at}
use Rattle.agg_engine_tree.proofs.collector_tree.growing.+tree.Goals as goal

-- ---- a composite

pub tree_of_node-bounds-as_slice-index : goal.tree_of_node-bounds-as_slice-index
tree_of_node-bounds-as_slice-index t c =
    let out = out-AggRefNode c.args.node.now in
    let d = subst (HasData c.args.ctx.now) (plan-is c.args.node.now kind.Composite
    c.in-Composite.is)
    c.requires in
    let within = slice_get_within c.args.ctx.now.composite_req_data out.idx_in_req_data d.0.0 d.0.1
    in
    omega (arith, within, ap length c.as_slice.ensures)

pub tree_of_node-offset_bounds-as_slice-index : goal.tree_of_node-offset_bounds-as_slice-index
tree_of_node-offset_bounds-as_slice-index t c =
    let within = tree_of_node-bounds-as_slice-index t c in
    omega (arith, within, c.as_slice.type_inv)

pub tree_of_node-new_composite-requires-clause-some :
    goal.tree_of_node-new_composite-requires-clause-some
tree_of_node-new_composite-requires-clause-some t c =
    let out = out-AggRefNode c.args.node.now in
    let r = c.index-as_slice-index.result in
    let d = subst (HasData c.args.ctx.now) (plan-is c.args.node.now kind.Composite
    c.in-Composite.is)
    c.requires in
    let at = read-at c.args.ctx.now.composite_req_data c.as_slice.result.now out.idx_in_req_data
    d.0.0
    r c.as_slice.ensures d.0.1 c.index-as_slice-index.is in
    let one : d.0.0 ≡ r = cc (d.0.1, at) in
    let some : 1 ≤ length r.req.now.sources =
    subst (λ (q : CompositeAggReqData). 1 ≤ length q.req.now.sources) one d.0.2.0 in
    omega (arith, some, ap length c.as_slice-num_sources.ensures)

pub tree_of_node-new_composite-requires-clause-few :
    goal.tree_of_node-new_composite-requires-clause-few
tree_of_node-new_composite-requires-clause-few t c =
    let out = out-AggRefNode c.args.node.now in
    let r = c.index-as_slice-index.result in
    let d = subst (HasData c.args.ctx.now) (plan-is c.args.node.now kind.Composite
    c.in-Composite.is)
    c.requires in
    let at = read-at c.args.ctx.now.composite_req_data c.as_slice.result.now out.idx_in_req_data
    d.0.0
    r c.as_slice.ensures d.0.1 c.index-as_slice-index.is in
    let one : d.0.0 ≡ r = cc (d.0.1, at) in
    let few : length r.req.now.sources ≤ max_sources =
    subst (λ (q : CompositeAggReqData). length q.req.now.sources ≤ max_sources) one d.0.2.1 in
    omega (arith, few, ap length c.as_slice-num_sources.ensures)

pub tree_of_node-returns-in_ok-below-in-Composite-2-clause-node :
    goal.tree_of_node-returns-in_ok-below-in-Composite-2-clause-node
tree_of_node-returns-in_ok-below-in-Composite-2-clause-node t c =
    let out = out-AggRefNode c.args.node.now in
    let collector = c.in_ok-collector-in-Composite.collector in
    let child = c.in_ok-below-in-Composite-2.below in
    rw (
      plan-is c.args.node.now kind.Composite c.in-Composite.is,
      held-composite out.idx_in_req_data collector child,
    ) (
      refl,
      subst (λ nodes. IsGroupOf (plans_of (map plan_of nodes)) (held_of child.value))
          c.as_slice-nodes.ensures
          (subst (λ n. IsGroupOf (plans_of (map plan_of c.as_slice-nodes.result.now)) (held_of n))
          (sym c.in_ok-below-in-Composite-2.ensures.ok) c.in_ok-below-in-Composite.ensures.nodes),
    )

pub tree_of_node-returns-in_ok-below-in-Composite-2-clause-new :
    goal.tree_of_node-returns-in_ok-below-in-Composite-2-clause-new
tree_of_node-returns-in_ok-below-in-Composite-2-clause-new t c =
    let ctx = c.args.ctx.now in
    let segment = c.args.segment.now in
    let index = (out-AggRefNode c.args.node.now).idx_in_req_data in
    let collector = c.in_ok-collector-in-Composite.collector in
    let child = c.in_ok-below-in-Composite-2.below in
    let r = c.index-as_slice-index.result in
    let nodes = c.as_slice-nodes.result.now in
    let is_leaf = c.is_empty-is_leaf.result in
    let here = sym c.in_ok-below-in-Composite-2.ensures.ok in
    let d = subst (HasData ctx) (plan-is c.args.node.now kind.Composite c.in-Composite.is)
    c.requires in
    let at = read-at ctx.composite_req_data c.as_slice.result.now index d.0.0
    r c.as_slice.ensures d.0.1 c.index-as_slice-index.is in
    rw (held-composite index collector child)
    (new-composite ctx segment index r is_leaf (length c.as_slice-num_sources.result.now) collector
    (held_of child.value) at (ap length c.as_slice-num_sources.ensures)
    c.in_ok-collector-in-Composite.ensures
    (handed-new nodes is_leaf collector.hands_on (held_of child.value) c.is_empty-is_leaf.ensures
    (subst (λ n. IsGroupOf (plans_of (map plan_of nodes)) (held_of n)) here
    c.in_ok-below-in-Composite.ensures.nodes) c.in_ok-collector-in-Composite.ensures.hands_on)
    (subst (λ n. IsNew ctx segment (held_of n)) here c.in_ok-below-in-Composite.ensures.new))

-- ---- a filter

pub tree_of_node-returns-in_ok-below-in-Filter-2-clause-node :
    goal.tree_of_node-returns-in_ok-below-in-Filter-2-clause-node
tree_of_node-returns-in_ok-below-in-Filter-2-clause-node t c =
    let index = (out-AggRefNode c.args.node.now).idx_in_req_data in
    let child = c.in_ok-below-in-Filter-2.below in
    rw (
      plan-is c.args.node.now kind.Filter c.in-Filter.is,
      held-filter index c.new-collector.result child,
    ) (
      refl,
      subst (λ nodes. IsGroupOf (plans_of (map plan_of nodes)) (held_of child.value))
          c.as_slice-nodes.ensures
          (subst (λ n. IsGroupOf (plans_of (map plan_of c.as_slice-nodes.result.now)) (held_of n))
          (sym c.in_ok-below-in-Filter-2.ensures.ok) c.in_ok-below-in-Filter.ensures.nodes),
    )

pub tree_of_node-returns-in_ok-below-in-Filter-2-clause-new :
    goal.tree_of_node-returns-in_ok-below-in-Filter-2-clause-new
tree_of_node-returns-in_ok-below-in-Filter-2-clause-new t c =
    let ctx = c.args.ctx.now in
    let segment = c.args.segment.now in
    let index = (out-AggRefNode c.args.node.now).idx_in_req_data in
    let collector = c.new-collector.result in
    let child = c.in_ok-below-in-Filter-2.below in
    let nodes = c.as_slice-nodes.result.now in
    let is_leaf = c.is_empty-is_leaf.result in
    let here = sym c.in_ok-below-in-Filter-2.ensures.ok in
    let d = subst (HasData ctx) (plan-is c.args.node.now kind.Filter c.in-Filter.is) c.requires in
    rw (held-filter index collector child)
    (new-filter ctx segment index d.0.0 is_leaf collector (held_of child.value) d.0.1
    c.new-collector.ensures
    (handed-new nodes is_leaf collector.hands_on (held_of child.value) c.is_empty-is_leaf.ensures
    (subst (λ n. IsGroupOf (plans_of (map plan_of nodes)) (held_of n)) here
    c.in_ok-below-in-Filter.ensures.nodes) c.new-collector.ensures.hands_on)
    (subst (λ n. IsNew ctx segment (held_of n)) here c.in_ok-below-in-Filter.ensures.new))

-- ---- a metric

pub tree_of_node-bounds-as_slice-index-in-StatsKind :
    goal.tree_of_node-bounds-as_slice-index-in-StatsKind
tree_of_node-bounds-as_slice-index-in-StatsKind t c =
    let index = (out-AggRefNode c.args.node.now).idx_in_req_data in
    let d = subst (HasData c.args.ctx.now)
    (plan-is c.args.node.now (kind.StatsKind c.in-StatsKind.field-0) c.in-StatsKind.is)
    c.requires in
    let within = slice_get_within c.args.ctx.now.stats_metric_req_data index d.0 d.1 in
    omega (arith, within, ap length c.as_slice-in-StatsKind.ensures)

pub tree_of_node-offset_bounds-as_slice-index-in-StatsKind :
    goal.tree_of_node-offset_bounds-as_slice-index-in-StatsKind
tree_of_node-offset_bounds-as_slice-index-in-StatsKind t c =
    let within = tree_of_node-bounds-as_slice-index-in-StatsKind t c in
    omega (arith, within, c.as_slice-in-StatsKind.type_inv)

pub tree_of_node-returns-in-StatsKind-clause-new : goal.tree_of_node-returns-in-StatsKind-clause-new
tree_of_node-returns-in-StatsKind-clause-new t c =
    let ctx = c.args.ctx.now in
    let index = (out-AggRefNode c.args.node.now).idx_in_req_data in
    let r = c.index-as_slice-index-in-StatsKind.result in
    let d = subst (HasData ctx)
    (plan-is c.args.node.now (kind.StatsKind c.in-StatsKind.field-0) c.in-StatsKind.is)
    c.requires in
    let at = read-at ctx.stats_metric_req_data c.as_slice-in-StatsKind.result.now index d.0
    r c.as_slice-in-StatsKind.ensures d.1 c.index-as_slice-index-in-StatsKind.is in
    rw (held-metric index c.new-collector-in-StatsKind.result)
    (new-metric ctx c.args.segment.now index r c.new-collector-in-StatsKind.result at
    c.new-collector-in-StatsKind.ensures.empty)

-- ---- several

pub trees_for-tree_of_node-requires : goal.trees_for-tree_of_node-requires
trees_for-tree_of_node-requires t c =
    let i = c.loop-node.node-index in
    let xs = c.args.nodes.now in
    let node = c.node-item.result in (
      search (rules, the_lemmas),
      subst (λ n. HasData c.args.ctx.now (plan_of n)) (sym c.node-item.is)
          (data-each c.args.ctx.now xs c.requires i node c.loop-node-test.true),
    )

pub trees_for-loop-node-preserved : goal.trees_for-loop-node-preserved
trees_for-loop-node-preserved t c =
    let ctx = c.args.ctx.now in
    let segment = c.args.segment.now in
    let i = c.loop-node.node-index in
    let xs = c.args.nodes.now in
    let node = c.node-item.result in
    let tree = c.in_ok-tree_of_node.field-0 in
    let before = c.loop-node.trees.items in
    let hs : List Held = map held_of before in
    let pushed : map held_of c.push.new.self.items ≡ hs ++ held_of tree ∷ [] =
    ap (map held_of) c.in_ok-push.ensures.items ∙ map-append held_of before (tree ∷ []) in
    let taken : map plan_of (take (i + 1) xs) ≡ map plan_of (take i xs) ++ plan_of node ∷ [] =
    ap (map plan_of) (take_more xs i node c.loop-node-test.true)
    ∙ map-append plan_of (take i xs) (get_or xs i node ∷ [])
    ∙ ap (λ n. map plan_of (take i xs) ++ plan_of n ∷ []) (sym c.node-item.is) in
    record {
      nodes = subst (λ ps. IsGroupOf (plans_of ps) (group_of c.push.new.self.items)) (sym taken)
          (subst (λ ks. IsGroupOf (plans_of (map plan_of (take i xs) ++ plan_of node ∷ []))
          (Held.group (helds_of ks))) (sym pushed)
          (group-more ctx segment (map plan_of (take i xs)) hs (plan_of node) (held_of tree)
          c.loop-node.invariant.nodes c.in_ok-tree_of_node.ensures.node));
      new = subst (λ ks. IsNew ctx segment (Held.group (helds_of ks))) (sym pushed)
          (new-more ctx segment hs (held_of tree) c.loop-node.invariant.new
          c.in_ok-tree_of_node.ensures.new);
    }

pub trees_for-returns-clause-nodes : goal.trees_for-returns-clause-nodes
trees_for-returns-clause-nodes t c =
    let xs = c.args.nodes.now in
    rw (held-group c.loop-node.trees)
    (subst (λ ns. IsGroupOf (plans_of (map plan_of ns)) (group_of c.loop-node.trees.items))
    (take_all c.loop-node.node-index xs c.loop-node-test.false) c.loop-node.invariant.nodes)
