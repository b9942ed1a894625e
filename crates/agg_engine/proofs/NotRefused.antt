-- Results that don't have to be refused.
use Rattle.std.proofs.Common.{◌≤◌, ◌+◌, List, Bool, ap, ◌∙◌, subst, arith}
use Rattle.agg_values.specs.Nothing.{NoneIs}
use Rattle.agg_values.specs.declared.request_error.AggregationError.TheVariants as aggregation
use Rattle.agg_cache.specs.Limits.{Limits}
use Rattle.agg_segment.specs.storage.Document.{Fields}
use Rattle.agg_segment.specs.declared.query.QueryTree.{QueryTree}
use Rattle.agg_request_tree.specs.Request.{Request}
use Rattle.agg_results.specs.final_results.BucketCount.{results_buckets}
use Rattle.agg_results.specs.declared.final_results.types.AggregationResults.{AggregationResults}
use Rattle.agg_results.specs.Results.{AreResults}
use Rattle.agg_engine.specs.snapshot_results.MemoryLimits.{HaveRoom, TellsMemory, low_roof_in}
use Rattle.agg_engine.specs.Refusals.{RefusedAtLeast, MayBeCounted}
use Rattle.agg_engine.specs.Walk.{matching_among}
use Rattle.agg_engine.specs.declared.walk.error.WalkError.TheVariants as error
use Rattle.agg_engine.proofs.OneWalk.{AreResults-same}

module _ {B : Type 0} (is_match : B → Fields → Bool) (limits : Limits) (query : QueryTree)
    (request : Request B) (segments : List (List Fields))
    (may : MayBeCounted is_match query request segments)
    (room : HaveRoom is_match query request limits segments) (r : AggregationResults)
    (is : AreResults is_match request (matching_among query segments) r)
    (short : results_buckets r ≤ limits.bucket_limit) where
  -- results don't have to be refused where they may be collected, each segment has room for its low
  -- roof, and there are no more buckets than the limit
  pub not-refused : NoneIs (RefusedAtLeast is_match limits query request segments)
  not-refused error.BucketOutOfRange refused = may.0 refused
  not-refused error.TooMany refused = may.1 refused.1
  not-refused (error.Aggregation (aggregation.MemoryExceeded told current)) refused =
      let found = refused.1 in
      let tells : TellsMemory limits.memory_limit
      (limits.in_use + low_roof_in is_match query request found.1) 0 told current = found.4 in
      let above = tells.above in
      let most = tells.within in
      let fits = subst (λ documents.
      limits.in_use + low_roof_in is_match query request documents ≤ limits.memory_limit) found.3
      (room found.0 found.1 found.2) in
      omega arith
  not-refused (error.Aggregation (aggregation.BucketLimitExceeded given n)) refused =
      let more = refused.3 in
      let others = refused.4 in
      let counted = others.2
      ∙ ap results_buckets (AreResults-same is_match request (matching_among query segments)
      others.0 r others.1 is) in
      omega arith
  not-refused (error.Aggregation (aggregation.DateHistogramParseError part)) refused = refused
  not-refused (error.Invalid fault) refused = refused
  not-refused error.UnknownComposite refused = refused
  not-refused error.QueryBuild refused = refused
  not-refused error.OutOfMemory refused = refused
