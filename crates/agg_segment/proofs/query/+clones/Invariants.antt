use Rattle.std.proofs.Common.{◌≡◌, take}
use Rattle.agg_segment.proofs.query.+clones.Given as goal

abbrev pub invariant-clone_trees-loop-tree : goal.invariant-clone_trees-loop-tree
invariant-clone_trees-loop-tree l = l.copies.items ≡ take l.tree-index l.trees
