use Rattle.agg_engine_tree.specs.collector_tree.Tree.{IsFlushed, held_of}
use Rattle.agg_engine_tests.specs.collectors.Trees.{IsTreeFor}
use Rattle.agg_engine_tests.proofs.collectors.tree.expect_rows.Given as goal

-- the tree is as it was
abbrev pub invariant-loop-asked : goal.invariant-loop-asked
invariant-loop-asked g l = record {
  tree : IsTreeFor l.agg_data.per_request (held_of l.tree);
  flushed : IsFlushed (held_of l.tree);
}
