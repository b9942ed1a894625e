use Rattle.std.proofs.Common.{◌≡◌, ◌++◌, Some, map}
use Rattle.agg_engine_tree.specs.collector_tree.Tree.{held_of}
use Rattle.agg_engine_tree.proofs.lemmas.tree_results.SideBySide.{AddInTurn}
use Rattle.agg_engine_tree.proofs.tree_results.ending.+into_results_under.Given as goal

-- the nodes so far added their results
abbrev pub invariant-loop-child : goal.invariant-loop-child
invariant-loop-child l = record {
  added : AddInTurn l.ctx (Some l.parent) (map held_of l.yielded) l.fn.results.results
      l.results.results;
  rest : l.initial.child-iterator.rest.items ≡ l.yielded ++ l.child-iterator.rest.items;
}
