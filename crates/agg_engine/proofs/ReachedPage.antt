-- The results of a page are what is final of its merged results, whatever the request.
use Rattle.std.proofs.Common.{◌≤◌, List, Bool, Option, subst}
use Rattle.agg_values.specs.Nothing.{NoneIs}
use Rattle.agg_cache.specs.Limits.{Limits}
use Rattle.agg_segment.specs.storage.Document.{Fields}
use Rattle.agg_segment.specs.declared.query.QueryTree.{QueryTree}
use Rattle.agg_request_tree.specs.Request.{Request}
use Rattle.agg_results.specs.final_results.BucketCount.{results_buckets}
use Rattle.agg_results.specs.intermediate_results.Final.{final_results}
use Rattle.agg_results.specs.intermediate_results.Intermediate.{Held}
use Rattle.agg_results.specs.intermediate_results.Refusals.{HoldsOther, HoldsUnknown}
use Rattle.agg_results.specs.Results.{AreResults}
use Rattle.agg_results.proofs.FinalResults.{StandsFor-final}
use Rattle.agg_results.proofs.StandingRefusals.{StandsFor-known, StandsFor-shapes}
use Rattle.agg_engine_tree.specs.segment_context.Pages.{paged}
use Rattle.agg_engine_tree.specs.declared.segment_context.params.Page.{Page}
use Rattle.agg_engine.specs.snapshot_results.MemoryLimits.{HaveRoom}
use Rattle.agg_engine.proofs.lemmas.collectors.PagedFinals.{final-paged, other-paged, unknown-paged}
use Rattle.agg_engine.specs.Refusals.{RefusedAtLeast}
use Rattle.agg_engine.specs.Walk.{matching_among}
use Rattle.agg_engine.proofs.MergedResults.{IsMergedOf}
use Rattle.agg_engine.proofs.NotRefused.{not-refused}

-- the merged results of a request with a page
module _ {B : Type 0} (is_match : B → Fields → Bool) (page : Option Page) (request : Request B)
    (documents : List Fields) (merged : Held)
    (h : IsMergedOf is_match (paged page request) documents merged) where
  -- no name is unknown
  pub known-here : ¬ (HoldsUnknown request merged)
  known-here unknown =
      StandsFor-known is_match (paged page request) documents merged h.stands
      (unknown-paged request merged page unknown)

  -- no result has another shape
  pub alike-here : ¬ (HoldsOther request merged)
  alike-here other =
      StandsFor-shapes is_match (paged page request) documents merged h.stands
      (other-paged request merged page other)

  -- what is final is the results of the page
  pub results-here
      : AreResults is_match (paged page request) documents (final_results request merged)
  results-here =
      subst (AreResults is_match (paged page request) documents)
      (final-paged request merged page)
      (StandsFor-final is_match (paged page request) documents merged h.stands)

-- they don't have to be refused where each segment has room for its low roof and they have no more
-- buckets than the limit
pub fit-here : {B : Type 0} (is_match : B → Fields → Bool) (limits : Limits) (query : QueryTree)
    (page : Option Page) (request : Request B) (segments : List (List Fields)) (merged : Held)
    → IsMergedOf is_match (paged page request) (matching_among query segments) merged
    → HaveRoom is_match query (paged page request) limits segments
    → results_buckets (final_results request merged) ≤ limits.bucket_limit
    → NoneIs (RefusedAtLeast is_match limits query (paged page request) segments)
fit-here is_match limits query page request segments merged h room short =
    not-refused is_match limits query (paged page request) segments (h.range, h.few) room
    (final_results request merged)
    (results-here is_match page request (matching_among query segments) merged h) short
