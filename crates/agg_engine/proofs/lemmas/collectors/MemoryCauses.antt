-- Why collectors aren't made, refuse documents or have no results, where their bytes are charged.
use Rattle.std.proofs.Common.{ℕ, List, [], ◌++◌, inl, inr}
use Rattle.agg_values.specs.declared.request_error.RequestError.{RequestError}
use Rattle.agg_values.specs.declared.request_error.RequestError.TheVariants as fault
use Rattle.agg_cache.specs.Limits.{Limits}
use Rattle.agg_cache.specs.Waiting.{under}
use Rattle.agg_segment.specs.Query.{matches}
use Rattle.agg_segment.specs.Segment.{Stored, documents_at}
use Rattle.agg_segment.specs.declared.query.QueryTree.{QueryTree}
use Rattle.agg_request_tree.specs.Faults.{HasCause, IsSoundRequest}
use Rattle.agg_request_tree.specs.Ranges.{HasStartOutOfRange}
use Rattle.agg_request_tree.specs.Request.{Request}
use Rattle.agg_request_tree.specs.Uncut.{CountsTooMany}
use Rattle.agg_request_tree.specs.charges.Charges.{fixed_charge}
use Rattle.agg_engine_tree.specs.segment_context.SetupError.{error_from_request}
use Rattle.agg_engine.specs.snapshot_results.ChargeErrors.{collect_error, setup_error}
use Rattle.agg_engine.specs.snapshot_results.ChargedTrees.{IsChargeCause, IsFixedCause}
use Rattle.agg_engine.specs.declared.snapshot_results.charge_error.ChargeError.{ChargeError}
use Rattle.agg_engine.specs.declared.snapshot_results.charge_error.ChargeError.TheVariants as charge
use Rattle.agg_engine.specs.collectors.Segment.{IsHarvestCause, IsRightFor, IsSetupCause}
use Rattle.agg_engine.specs.collectors.Segment.{IsTreeCause}
use Rattle.agg_engine.specs.declared.collectors.segment.AggregationSegmentCollector as declared
use declared.{AggregationSegmentCollector}
use Rattle.agg_engine.proofs.lemmas.collectors.FlushedCollectors.{tells-flushed}
use Rattle.agg_engine.proofs.lemmas.collectors.RightCollectors.{tells-roof}

module _ {B : Type 0} (request : Request B) (documents : ℕ) (limits : Limits) where
  -- a request has a fault
  pub cause-fault : (given : RequestError) → HasCause request given
      → IsSetupCause request documents limits (error_from_request given)
  cause-fault (fault.Invalid argument) cause = cause
  cause-fault (fault.Aggregation part) cause = inl cause
  cause-fault fault.OutOfMemory cause = tt

  -- it has none, and its fixed charge is too much
  pub cause-fixed : IsSoundRequest request → (given : ChargeError)
      → IsFixedCause (fixed_charge request documents) limits given
      → IsSetupCause request documents limits (setup_error given)
  cause-fixed sound (charge.MemoryExceeded told current) cause = inr (sound, cause)
  cause-fixed sound charge.OutOfMemory cause = tt

module _ (old : AggregationSegmentCollector) (limits : Limits) where
  -- documents pass the checks after those that a collector took
  abbrev pub Pass : List ℕ → Type 0
  Pass docs =
      (request : Request QueryTree) (segment : Stored) (taken : List ℕ) (visits : ℕ)
      → IsRightFor request segment taken visits old
      → (¬ (HasStartOutOfRange request (documents_at segment docs)))
      × (¬ (CountsTooMany matches request (documents_at segment (taken ++ docs))))

  -- such documents are too much
  pub cause-charged : (docs : List ℕ) → Pass docs → (given : ChargeError)
      → IsChargeCause old.aggregations.per_request (under 0 docs) old.tree limits given
      → IsTreeCause docs old limits (collect_error given)
  cause-charged docs pass (charge.MemoryExceeded told current) cause =
      λ request segment taken visits r.
      let passed = pass request segment taken visits r in (
        passed.0,
        passed.1,
        tells-roof request segment taken visits old r docs limits told current cause,
      )
  cause-charged docs pass charge.OutOfMemory cause = tt

  -- what was taken is too much
  pub cause-flushed : (given : ChargeError)
      → IsChargeCause old.aggregations.per_request [] old.tree limits given
      → IsHarvestCause old limits (collect_error given)
  cause-flushed (charge.MemoryExceeded told current) cause = λ request segment docs visits r.
      tells-flushed request segment docs visits old r limits told current cause
  cause-flushed charge.OutOfMemory cause = tt
