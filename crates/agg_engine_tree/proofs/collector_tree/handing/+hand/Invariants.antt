use Rattle.std.proofs.Common.{◌≤◌, ◌+◌, ◌*◌, false, map, take}
use Rattle.agg_cache.specs.Waiting.{pairs_of}
use Rattle.agg_engine_tree.specs.collector_tree.Call.{is_flush, pairs_in}
use Rattle.agg_engine_tree.specs.collector_tree.Step.{depth, depths}
use Rattle.agg_engine_tree.specs.collector_tree.Tree.{Takes, held_of, helds_of}
use Rattle.agg_engine_tree.proofs.lemmas.collector_tree.Groups.{AllTake}
use Rattle.agg_engine_tree.proofs.collector_tree.handing.+hand.Given as goal

abbrev pub decreases-hand : goal.decreases-hand
decreases-hand g l = 2 * depth (held_of l.node.now)

abbrev pub decreases-hand_batches : goal.decreases-hand_batches
decreases-hand_batches g l = 2 * depth (held_of l.node.now) + 1

abbrev pub decreases-hand_all : goal.decreases-hand_all
decreases-hand_all g l = 2 * depths (helds_of (map held_of l.children.now.items)) + 1

abbrev pub invariant-hand_batches-loop-batch : goal.invariant-hand_batches-loop-batch
invariant-hand_batches-loop-batch g l = record {
  took : Takes l.ctx (pairs_of (take l.batch-index l.batches)) false (held_of l.fn.node)
      (held_of l.node) l.fn.steps l.steps;
  later : l.fn.steps ≤ l.steps;
}

abbrev pub invariant-hand_all-loop-i : goal.invariant-hand_all-loop-i
invariant-hand_all-loop-i g l = record {
  unvisited : goal.unvisited-hand_all-loop-i g l;
  took : AllTake l.ctx (pairs_in l.call) (is_flush l.call)
      (map held_of (take l.i l.fn.children.items)) (map held_of (take l.i l.children.items))
      l.fn.steps l.steps;
  later : l.fn.steps ≤ l.steps;
}
