use Rattle.std.proofs.Common.{ℕ, [], false, map, take}
use Rattle.agg_engine_tree.specs.declared.segment_context.context.PerRequestAggSegCtx.{
  PerRequestAggSegCtx,
}
use Rattle.agg_engine_tree.specs.collector_tree.Prepared.{IsPrepared}
use Rattle.agg_engine_tree.specs.collector_tree.Tree.{group_of, held_of}
use Rattle.agg_engine_tree.proofs.lemmas.collector_tree.Groups.{AllTake}
use Rattle.agg_engine_tree.proofs.collector_tree.preparing.+prepare.Given as goal

abbrev pub invariant-prepare_all-loop-i : goal.invariant-prepare_all-loop-i
invariant-prepare_all-loop-i l = record {
  unvisited : goal.unvisited-prepare_all-loop-i l;
  took : (ctx : PerRequestAggSegCtx) (steps : ℕ)
      → AllTake ctx [] false (map held_of (take l.i l.fn.children.items))
      (map held_of (take l.i l.children.items)) steps steps;
  prepared : IsPrepared l.max_bucket (group_of (take l.i l.children.items));
}
