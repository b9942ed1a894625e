use Rattle.std.proofs.Common.{map, take}
use Rattle.agg_engine_tree.specs.segment_context.Plan.{plan_of, plans_of}
use Rattle.agg_engine_tree.specs.collector_tree.New.{IsNew}
use Rattle.agg_engine_tree.specs.collector_tree.Tree.{IsGroupOf, group_of}
use Rattle.agg_engine_tree.proofs.collector_tree.growing.+tree.Given as goal

abbrev pub invariant-trees_for-loop-node : goal.invariant-trees_for-loop-node
invariant-trees_for-loop-node l = record {
  nodes : IsGroupOf (plans_of (map plan_of (take l.node-index l.nodes))) (group_of l.trees.items);
  new : IsNew l.ctx l.segment (group_of l.trees.items);
}
