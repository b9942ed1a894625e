-- What has to be refused, and what may be.
use Rattle.std.proofs.Common.{◌+◌, ℕ, List, [], ◌∷◌, Bool, filter, length}
use Rattle.std.proofs.Common.{inl, inr, sym, subst, arith}
use Rattle.std.specs.List.{All}
use Rattle.agg_values.specs.declared.request_error.AggregationError.TheVariants as aggregation
use Rattle.agg_cache.specs.Limits.{Limits}
use Rattle.agg_segment.specs.storage.Document.{Fields}
use Rattle.agg_segment.specs.Query.{matches}
use Rattle.agg_segment.specs.SnapshotDocuments.{SnapshotDocuments}
use Rattle.agg_segment.specs.declared.query.QueryTree.{QueryTree}
use Rattle.agg_request_tree.specs.Request.{Request}
use Rattle.agg_request_tree.specs.charges.Settled.{IsSettled}
use Rattle.agg_request_tree.proofs.lemmas.charges.Roofs.{low-at_most, low-settled}
use Rattle.agg_request_tree.specs.ChangedRequest.{request_after, request_at_size}
use Rattle.agg_engine.specs.snapshot_results.MemoryLimits.{TellsMemory, low_roof_in}
use Rattle.agg_engine.specs.Refusals.{AreSettled, RefusedAtLeast, WalkRefusedAtLeast, RefusedAtMost}
use Rattle.agg_engine.specs.Refusals.{WalkRefusedAtMost}
use Rattle.agg_engine.specs.Walk.{after_in}
use Rattle.agg_engine.specs.declared.walk.error.WalkError.{WalkError}
use Rattle.agg_engine.specs.declared.walk.error.WalkError.TheVariants as error

module _ {B : Type 0} (is_match : B → Fields → Bool) (limits : Limits) (query : QueryTree)
    (request : Request B) (segments : List (List Fields)) where
  -- what has to be refused may be
  pub may-from_has : (why : WalkError)
      → RefusedAtLeast is_match limits query request segments why
      → RefusedAtMost is_match limits query request segments why
  may-from_has error.BucketOutOfRange refused = refused
  may-from_has error.TooMany refused = refused
  may-from_has (error.Aggregation (aggregation.MemoryExceeded told current)) refused =
      let found = refused.1 in
      let tells : TellsMemory limits.memory_limit
      (limits.in_use + low_roof_in is_match query request found.1) 0 told current = found.4 in
      let most = tells.within in
      let low = low-at_most is_match request (length found.1) (filter (matches query) found.1) in (
        refused.0,
        (
          found.0,
          found.1,
          found.2,
          found.3,
          record {
            is_limit = tells.is_limit;
            sum = tells.sum;
            above = tells.above;
            within = omega arith;
            is_sum = tells.is_sum;
          },
        ),
      )
  may-from_has (error.Aggregation (aggregation.BucketLimitExceeded given n)) refused = refused
  may-from_has (error.Aggregation (aggregation.DateHistogramParseError part)) refused = refused
  may-from_has (error.Invalid fault) refused = refused
  may-from_has error.UnknownComposite refused = refused
  may-from_has error.QueryBuild refused = refused
  may-from_has error.OutOfMemory refused = refused

  -- what may be refused has to be, where the request is settled in each segment
  pub has-from_may : All (λ ds. IsSettled is_match request (filter (matches query) ds)) segments
      → (why : WalkError) → RefusedAtMost is_match limits query request segments why
      → RefusedAtLeast is_match limits query request segments why
  has-from_may settled error.BucketOutOfRange refused = refused
  has-from_may settled error.TooMany refused = refused
  has-from_may settled (error.Aggregation (aggregation.MemoryExceeded told current)) refused =
      let found = refused.1 in
      let here = subst (λ ds. IsSettled is_match request (filter (matches query) ds)) found.3
      (settled found.0 found.1 found.2) in
      let same = low-settled is_match request (length found.1) (filter (matches query) found.1) here
      in (
        refused.0,
        (
          found.0,
          found.1,
          found.2,
          found.3,
          subst (λ (bytes : ℕ). TellsMemory limits.memory_limit (limits.in_use + bytes) 0 told
              current) (sym same) found.4,
        ),
      )
  has-from_may settled (error.Aggregation (aggregation.BucketLimitExceeded given n)) refused =
      refused
  has-from_may settled (error.Aggregation (aggregation.DateHistogramParseError part)) refused =
      refused
  has-from_may settled (error.Invalid fault) refused = refused
  has-from_may settled error.UnknownComposite refused = refused
  has-from_may settled error.QueryBuild refused = refused
  has-from_may settled error.OutOfMemory refused = refused

module _ {B : Type 0} (is_match : B → Fields → Bool) (limits : Limits) (name : List ℕ)
    (query : QueryTree) where
  -- a walk that has to be refused may be
  pub may_refuse : (request : Request B) (snapshots : List SnapshotDocuments) (why : WalkError)
      → WalkRefusedAtLeast is_match limits name query request snapshots why
      → WalkRefusedAtMost is_match limits name query request snapshots why
  may_refuse request [] why refused = absurd refused
  may_refuse request (s ∷ snapshots) why (inl here) =
      inl (may-from_has is_match limits query (request_at_size name s.page_size request)
      s.segments why here)
  may_refuse request (s ∷ snapshots) why (inr later) =
      inr (
        later.0,
        (
          later.1.0,
          later.1.1,
          later.1.2,
          may_refuse (request_after name (after_in name later.1.0) request) snapshots why
              later.1.3,
        ),
      )

  -- and one that may be has to be, where its request is settled at each snapshot that it reaches
  pub has_to_refuse : (request : Request B) (snapshots : List SnapshotDocuments) (why : WalkError)
      → AreSettled is_match name query request snapshots
      → WalkRefusedAtMost is_match limits name query request snapshots why
      → WalkRefusedAtLeast is_match limits name query request snapshots why
  has_to_refuse request [] why settled refused = absurd refused
  has_to_refuse request (s ∷ snapshots) why settled (inl here) =
      inl (has-from_may is_match limits query (request_at_size name s.page_size request)
      s.segments settled.0 why here)
  has_to_refuse request (s ∷ snapshots) why settled (inr later) =
      inr (
        later.0,
        (
          later.1.0,
          later.1.1,
          later.1.2,
          has_to_refuse (request_after name (after_in name later.1.0) request) snapshots why
              (settled.1 later.1.0 later.1.1 later.1.2) later.1.3,
        ),
      )
