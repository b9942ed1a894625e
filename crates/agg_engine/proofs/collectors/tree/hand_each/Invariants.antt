use Rattle.std.proofs.Common.{◌≤◌, false, length, take, zip}
use Rattle.agg_engine_tree.specs.collector_tree.Tree.{Takes, held_of}
use Rattle.agg_engine.proofs.collectors.tree.hand_each.Given as goal

abbrev pub invariant-loop-bucket_id : goal.invariant-loop-bucket_id
invariant-loop-bucket_id g l = record {
  took : Takes l.ctx (take (length l.yielded) (zip l.bucket_ids l.docs)) false
      (held_of l.fn.tree) (held_of l.tree) l.fn.steps l.steps;
  later : l.fn.steps ≤ l.steps;
}
