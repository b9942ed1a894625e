-- Why trees of collectors refuse documents, where the bytes of their buckets are charged.
use Rattle.std.specs.Prelude.{◌+◌, ◌++◌, ℕ, List, ⊤}
use Rattle.agg_cache.specs.Limits.{IsExceeded, Limits}
use Rattle.agg_cache.specs.declared.error.CollectError.{CollectError}
use Rattle.agg_cache.specs.declared.error.CollectError.TheVariants as error
use Rattle.agg_segment.specs.Query.{matches}
use Rattle.agg_segment.specs.declared.query.QueryTree.{QueryTree}
use Rattle.agg_request_tree.specs.Request.{Request}
use Rattle.agg_request_tree.specs.charges.Roof.{counts_of}
use Rattle.agg_request_tree.specs.charges.Roof.Height.{High}
use Rattle.agg_engine_tree.specs.segment_context.Context.{Meaning}
use Rattle.agg_engine_tree.specs.declared.segment_context.context.PerRequestAggSegCtx.{
  PerRequestAggSegCtx,
}
use Rattle.agg_engine_tree.specs.collector_tree.Refusals.{IsRefused}
use Rattle.agg_engine_tree.specs.collector_tree.Tree.{Held}
use Rattle.agg_engine_tree.specs.held_bytes.HeldBytes.{held_bytes}
use Rattle.agg_engine_tree.specs.held_bytes.Trees.{AreUnder, IsAsGroup, IsTreeOf, over_parents}
use Rattle.agg_engine.specs.snapshot_results.MemoryLimits.{TellsMemory}
use Rattle.agg_engine.specs.collectors.Segment.{IsMemoryExceeded}

-- why bytes that buckets have grown by aren't charged: more than the limit would be in use; running
-- out of memory needs no cause
abbrev pub IsGrowthRefusal : ℕ → Limits → CollectError → Type 0
IsGrowthRefusal bytes limits (error.Aggregation part) = IsExceeded bytes limits part
IsGrowthRefusal bytes limits error.OutOfMemory = ⊤
IsGrowthRefusal bytes limits _ = ⊥

module _ (ctx : PerRequestAggSegCtx) (limits : Limits) (pairs : List (ℕ × ℕ)) (parents : List ℕ)
    (old : Held) where
  -- more bytes than the limit may be in use: with those that the request counts over all documents
  -- of each parent, in the place of the bytes that the tree held
  abbrev pub CountsTooMuch : ℕ → ℕ → Type 0
  CountsTooMuch told current =
      (meaning : Meaning) (request : Request QueryTree) (root : Held) (taken : List (ℕ × ℕ))
      → IsAsGroup old root → IsTreeOf meaning ctx request root taken
      → (count : ℕ) → AreUnder count (taken ++ pairs)
      → TellsMemory limits.memory_limit
      (limits.in_use + over_parents (counts_of matches request High) meaning.segment
      (taken ++ pairs) count)
      (held_bytes ctx old) told current

  -- why a tree refuses pairs that it gets under these parents
  abbrev pub IsTreeRefusal : CollectError → Type 0
  IsTreeRefusal (error.Aggregation part) = IsMemoryExceeded CountsTooMuch part
  IsTreeRefusal given = IsRefused ctx pairs parents old given
