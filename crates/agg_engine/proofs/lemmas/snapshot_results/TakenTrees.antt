-- What a tree answers that may take documents.
use Rattle.std.proofs.Common.{◌≡◌, ◌++◌, ℕ, List, map, refl}
use Rattle.agg_cache.specs.declared.error.CollectError.{CollectError}
use Rattle.agg_cache.specs.declared.error.CollectError.TheVariants as error
use Rattle.agg_composite.specs.buckets.Visits.{docs_in}
use Rattle.agg_engine_tree.specs.segment_context.Plan.{plan_of, plans_of}
use Rattle.agg_engine_tree.specs.declared.segment_context.context.PerRequestAggSegCtx.{
  PerRequestAggSegCtx,
}
use Rattle.agg_engine_tree.specs.collector_tree.Bound.{TakesMost}
use Rattle.agg_engine_tree.specs.collector_tree.Refusals.{AreNotLast, IsRefused}
use Rattle.agg_engine_tree.specs.collector_tree.Refusals.{TakesInRange}
use Rattle.agg_engine_tree.specs.collector_tree.Tree.{Held}
use Rattle.agg_engine.specs.snapshot_results.Trees.{MayTake, MostSteps}
use Rattle.agg_engine.proofs.lemmas.snapshot_results.TreeRanges.{group-out}

module _ (ctx : PerRequestAggSegCtx) (pairs : List (ℕ × ℕ)) (parents : List ℕ)
    (old : Held) where
  -- a tree that may take documents takes them in range
  pub may-in_range : MayTake ctx old pairs → TakesInRange ctx pairs old
  may-in_range may = record {
    meaning = may.meaning;
    meant = may.right.context.meant;
    taken = may.taken;
    visits = may.visits;
    right = may.right.right;
    range = λ out. may.all.range (group-out may.meaning ctx (docs_in (may.taken ++ pairs))
        (plans_of (map plan_of ctx.agg_tree)) may.request may.right.context.tree old
        may.right.nodes out);
  }

  -- only memory may run out
  pub only-memory : MayTake ctx old pairs → AreNotLast parents → (e : CollectError)
      → IsRefused ctx pairs parents old e → e ≡ error.OutOfMemory
  unfolding may-in_range
  only-memory may low error.OutOfMemory refused = refl
  only-memory may low error.BucketOutOfRange refused =
      absurd ((may-in_range may).range (refused.range may.meaning may.right.context.meant may.taken
      may.visits may.right.right))
  only-memory may low error.TooMany refused =
      absurd (may.all.few (refused.group low may.meaning may.right.context.meant may.taken
      may.all.numbers may.visits may.right.right may.request (plans_of (map plan_of ctx.agg_tree))
      may.right.context.tree may.right.nodes))
  only-memory may low (error.Aggregation e) refused = absurd refused
  only-memory may low error.CollectorFailed refused = absurd refused

  -- the steps are few for a request
  pub most-of : (steps steps_now : ℕ) → TakesMost ctx pairs old steps steps_now
      → MostSteps ctx pairs old steps steps_now
  most-of steps steps_now most = record {
    most = λ request meaning taken visits right. most.group meaning right.context.meant taken
        visits right.right request (plans_of (map plan_of ctx.agg_tree)) right.context.tree
        right.nodes;
  }
