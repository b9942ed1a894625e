-- A tree of collectors, and what is charged for it.
use Rattle.std.specs.Prelude.{◌≡◌, ◌≤◌, ◌+◌, ◌-◌, ◌++◌, ℕ, List, ⊤, length}
use Rattle.std.specs.List.{All}
use Rattle.agg_cache.specs.Limits.{Limits}
use Rattle.agg_request_tree.specs.charges.Charges.{fixed_charge}
use Rattle.agg_request_tree.specs.charges.Roof.{counts_of}
use Rattle.agg_request_tree.specs.charges.Roof.Height.{High}
use Rattle.agg_request_tree.specs.Request.{Request}
use Rattle.agg_segment.specs.Query.{matches}
use Rattle.agg_segment.specs.Segment.{Stored, documents_at, documents_of}
use Rattle.agg_segment.specs.declared.query.QueryTree.{QueryTree}
use Rattle.agg_composite.specs.buckets.Visits.{docs_in}
use Rattle.agg_engine_tree.specs.segment_context.Context.{IsContextOf, Meaning}
use Rattle.agg_engine_tree.specs.declared.segment_context.context.PerRequestAggSegCtx.{
  PerRequestAggSegCtx,
}
use Rattle.agg_engine_tree.specs.collector_tree.Tree.{held_of}
use Rattle.agg_engine_tree.specs.held_bytes.HeldBytes.{held_bytes}
use Rattle.agg_engine.specs.snapshot_results.MemoryLimits.{TellsMemory}
use Rattle.agg_engine.specs.snapshot_results.Trees.{IsNew, IsRight}
use Rattle.agg_engine.specs.declared.snapshot_results.charge_error.ChargeError.{ChargeError}
use Rattle.agg_engine.specs.declared.snapshot_results.charge_error.ChargeError.TheVariants as error
use Rattle.agg_engine.specs.declared.snapshot_results.charged_tree.ChargedTree.{ChargedTree}

-- what is charged for a tree is what its request takes, and the bytes of the buckets that it holds
abbrev pub IsCharged : PerRequestAggSegCtx → ChargedTree → Type 0
IsCharged ctx tree = tree.guard ≡ tree.fixed + held_bytes ctx (held_of tree.tree)

-- what is charged for a tree, and with it what a ledger has in use, has grown by the same bytes
pub record ChargesAnew (old new : ChargedTree) (limits limits_now : Limits) : Type 0 where
  pub fixed : new.fixed ≡ old.fixed
  pub grows : old.guard ≤ new.guard
  pub in_use : limits_now.in_use + old.guard ≡ limits.in_use + new.guard
  pub memory_limit : limits_now.memory_limit ≡ limits.memory_limit
  pub bucket_limit : limits_now.bucket_limit ≡ limits.bucket_limit

-- a tree right after it was made in a segment: what its request takes is charged
pub record IsMade (ctx : PerRequestAggSegCtx) (segment : Stored) (tree : ChargedTree)
    : Type 0 where
  pub new : IsNew ctx segment (held_of tree.tree)
  pub fixed : (meaning : Meaning) (request : Request QueryTree) → meaning.segment ≡ segment
      → IsContextOf meaning ctx request
      → tree.fixed ≡ fixed_charge request (length (documents_of segment))
  pub guard : tree.guard ≡ tree.fixed

-- a ledger before these bytes were charged
abbrev pub before : ℕ → Limits → Limits
before bytes limits = record limits { in_use = limits.in_use - bytes }

-- why a tree doesn't take documents under parent 0: with those that it took, they may have more
-- buckets than there is room for; running out of memory needs no cause
abbrev pub IsChargeCause : PerRequestAggSegCtx → List (ℕ × ℕ) → ChargedTree → Limits → ChargeError
    → Type 0
IsChargeCause ctx pairs old limits (error.MemoryExceeded told current) =
    (request : Request QueryTree) (meaning : Meaning) (taken : List (ℕ × ℕ)) (visits : ℕ)
    → IsRight ctx request meaning (held_of old.tree) taken visits
    → All (λ e. e.0 ≡ 0) (taken ++ pairs)
    → TellsMemory limits.memory_limit
    (limits.in_use + old.fixed
    + counts_of matches request High (documents_at meaning.segment (docs_in (taken ++ pairs))))
    old.guard told current
IsChargeCause ctx pairs old limits error.OutOfMemory = ⊤

-- why bytes aren't charged, as what a request takes for itself: more than the limit would be in use
-- with them; running out of memory needs no cause
abbrev pub IsFixedCause : ℕ → Limits → ChargeError → Type 0
IsFixedCause bytes limits (error.MemoryExceeded told current) =
    TellsMemory limits.memory_limit (limits.in_use + bytes) 0 told current
IsFixedCause bytes limits error.OutOfMemory = ⊤

-- why the growth of a tree isn't charged: more than the limit would be in use with what it takes
-- now, in place of what was charged; running out of memory needs no cause
abbrev pub IsHeldCause : PerRequestAggSegCtx → ChargedTree → Limits → ChargeError → Type 0
IsHeldCause ctx old limits (error.MemoryExceeded told current) =
    TellsMemory limits.memory_limit
    (limits.in_use + old.fixed + held_bytes ctx (held_of old.tree)) old.guard told current
IsHeldCause ctx old limits error.OutOfMemory = ⊤
