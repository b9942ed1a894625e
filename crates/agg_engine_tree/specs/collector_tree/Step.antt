-- What a node of a tree does by itself, before those below it.
use Rattle.std.specs.Prelude.{◌≡◌, ◌+◌, ℕ, suc, List, Bool, Option, None, Some, map}
use Rattle.agg_cache.specs.Waiting.{pairs_of}
use Rattle.agg_cache.specs.declared.cache.Batch.{Batch}
use Rattle.agg_cache.specs.declared.error.CollectError.{CollectError}
use Rattle.agg_engine_tree.specs.declared.segment_context.context.PerRequestAggSegCtx.{
  PerRequestAggSegCtx,
}
use Rattle.agg_engine_tree.specs.collector_tree.Bound.{TakesMost}
use Rattle.agg_engine_tree.specs.collector_tree.Refusals.{IsRefused, TakesInRange}
use Rattle.agg_engine_tree.specs.collector_tree.Tree.{Fits, Held, Helds, Takes}

-- the index of a node's data, 0 for a group
abbrev pub index_in : Held → ℕ
index_in (Held.composite index collector h) = index
index_in (Held.filter index collector h) = index
index_in (Held.metric index collector) = index
index_in (Held.group hs) = 0

-- how deep a tree is, those side by side added up
abbrev mutual
  pub depth : Held → ℕ
  depth (Held.composite index collector h) = suc (depth h)
  depth (Held.filter index collector h) = suc (depth h)
  depth (Held.metric index collector) = 1
  depth (Held.group hs) = suc (depths hs)

  pub depths : Helds → ℕ
  depths Helds.none = 0
  depths (Helds.more h hs) = suc (depth h + depths hs)

module _ (ctx : PerRequestAggSegCtx) (pairs : List (ℕ × ℕ)) (parents : List ℕ) (all : Bool)
    (old : Held) where
  -- a node is to hand batches on to what is below it: where that takes them, the node takes its
  -- pairs
  pub record HandsOn (batches : List Batch) (h : Held) (now : Held → Held) (steps steps_now : ℕ)
      : Type 0 where
    pub below : Fits ctx h
    pub in_range : TakesInRange ctx pairs old → TakesInRange ctx (pairs_of batches) h
    pub takes : (k : Held) (steps_then : ℕ)
        → Takes ctx (pairs_of batches) all h k steps_now steps_then
        → Takes ctx pairs all old (now k) steps steps_then
    pub refused : (error : CollectError)
        → IsRefused ctx (pairs_of batches) (map (λ batch. batch.bucket_id) batches) h error
        → IsRefused ctx pairs parents old error
    pub most : (steps_then : ℕ) → TakesMost ctx (pairs_of batches) h steps_now steps_then
        → TakesMost ctx pairs old steps steps_then

  -- a node with something below it took documents, and hands batches on if there are any
  abbrev pub Continues : Option (List Batch) → Held → (Held → Held) → ℕ → ℕ → Type 0
  Continues None h now steps steps_now = Takes ctx pairs all old (now h) steps steps_now
  Continues (Some batches) h now steps steps_now = HandsOn batches h now steps steps_now

  -- a node took documents in its own collector; a group did nothing
  abbrev pub TakesAt : Option (List Batch) → Held → ℕ → ℕ → Type 0
  TakesAt down (Held.composite index collector h) steps steps_now =
      (depth old ≡ suc (depth h)) × Continues down h (Held.composite index collector) steps
      steps_now
  TakesAt down (Held.filter index collector h) steps steps_now =
      (depth old ≡ suc (depth h)) × Continues down h (Held.filter index collector) steps steps_now
  TakesAt down (Held.metric index collector) steps steps_now =
      Takes ctx pairs all old (Held.metric index collector) steps steps_now
  TakesAt down (Held.group hs) steps steps_now =
      (old ≡ Held.group hs) × (steps_now ≡ steps)
