use Rattle.std.proofs.Common.{drop}
use Rattle.agg_request_tree.proofs.Pairs.{AreSameSoFar}
use Rattle.agg_request_tree.proofs.same.query.+trees.Given as goal

abbrev pub invariant-are_same_trees-loop-tree : goal.invariant-are_same_trees-loop-tree
invariant-are_same_trees-loop-tree l =
    AreSameSoFar l.trees l.others-2 (drop l.tree-index l.tree-items) l.others.rest.now
