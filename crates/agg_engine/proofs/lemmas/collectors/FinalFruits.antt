-- What is final of the merged results of segments.
use Rattle.std.proofs.Common.{◌<◌, ◌^◌, ℕ, List, Option, sym, subst}
use Rattle.std.specs.List.{Any}
use Rattle.agg_values.specs.declared.request_error.AggregationError.TheVariants as aggregation
use Rattle.agg_segment.specs.storage.Document.{Fields}
use Rattle.agg_segment.specs.Query.{matches}
use Rattle.agg_segment.specs.declared.query.QueryTree.{QueryTree}
use Rattle.agg_request_tree.specs.Matching.{built_matches}
use Rattle.agg_request_tree.specs.Request.{Request}
use Rattle.agg_request_tree.specs.Uncut.{ListsAsMany}
use Rattle.agg_results.specs.intermediate_results.Final.{final_results}
use Rattle.agg_results.specs.intermediate_results.Intermediate.{Held}
use Rattle.agg_results.specs.intermediate_results.Refusals.{IsNotFinal}
use Rattle.agg_results.specs.declared.intermediate_results as held
use held.error.FinalError.{FinalError}
use held.error.FinalError.TheVariants as last
use Rattle.agg_results.specs.declared.metric_results.error.MergeError.{MergeError}
use Rattle.agg_results.specs.declared.metric_results.error.MergeError.TheVariants as merge
use Rattle.agg_results.specs.Results.{AreResults}
use Rattle.agg_results.specs.StandsFor.{StandsFor}
use Rattle.agg_results.proofs.FinalResults.{StandsFor-final}
use Rattle.agg_results.proofs.StandingRefusals.{StandsFor-known, StandsFor-shapes}
use Rattle.agg_engine_tree.specs.segment_context.Pages.{paged}
use Rattle.agg_request_tree.specs.BuiltRequest.{built, built_tree}
use Rattle.agg_engine_tree.specs.declared.segment_context.params.Page.{Page}
use Rattle.agg_results.specs.intermediate_results.FinalError.{error_from_merge}
use Rattle.agg_engine.specs.collectors.Fruits.{IsFinalCause, IsMergeCause}
use Rattle.agg_engine.proofs.lemmas.collectors.BuiltLists.{lists-built}
use Rattle.agg_engine.proofs.lemmas.collectors.BuiltPages.{built-paged}
use Rattle.agg_engine.proofs.lemmas.collectors.BuiltRequests.{stands-built}
use Rattle.agg_engine.proofs.lemmas.collectors.BuiltTrees.{tree-matches}
use Rattle.agg_engine.proofs.lemmas.collectors.PagedFinals.{final-paged, other-paged, unknown-paged}

module _ {B : Type 0} (query_for : B → Option QueryTree) (page : Option Page) (request : Request B)
    (documents : List Fields) where
  -- the request with the page
  abbrev now : Request B
  now = paged page request

  -- the request as it was built, with the page
  abbrev made : Request QueryTree
  made = paged page (built query_for request)

  -- an error of merging has its cause in the request
  pub merge-cause : (limit : ℕ) (error : MergeError) → IsMergeCause made documents error
      → IsFinalCause (built_matches query_for) limit now documents (error_from_merge error)
  merge-cause limit merge.Mismatch cause = absurd cause
  merge-cause limit merge.TooMany cause =
      subst (Any _)
      (lists-built (built_matches query_for) (built_tree query_for) (tree-matches query_for) now
      documents)
      (subst (λ (r : Request QueryTree). ListsAsMany matches (2 ^ 62) r documents)
      (sym (built-paged (built_tree query_for) page request)) cause)
  merge-cause limit merge.OutOfMemory cause = tt

  module _ (whole : Held) (given : StandsFor matches made documents whole) where
    -- what stands for documents under the built request does under the request
    stands : StandsFor (built_matches query_for) now documents whole
    stands =
        stands-built (built_matches query_for) (built_tree query_for) (tree-matches query_for) now
        documents whole
        (subst (λ (r : Request QueryTree). StandsFor matches r documents whole)
        (sym (built-paged (built_tree query_for) page request)) given)

    -- what is final of it is the results
    pub final-fruits : AreResults (built_matches query_for) now documents
        (final_results request whole)
    final-fruits =
        subst (AreResults (built_matches query_for) now documents)
        (final-paged request whole page)
        (StandsFor-final (built_matches query_for) now documents whole stands)

    -- where nothing is final of it, there is a cause
    pub final-cause : (limit : ℕ) (error : FinalError) → IsNotFinal limit request whole error
        → IsFinalCause (built_matches query_for) limit now documents error
    final-cause limit last.UnknownAggregation unknown =
        StandsFor-known (built_matches query_for) now documents whole stands
        (unknown-paged request whole page unknown)
    final-cause limit last.Mismatch other =
        StandsFor-shapes (built_matches query_for) now documents whole stands
        (other-paged request whole page other.1)
    final-cause limit (last.Aggregation (aggregation.BucketLimitExceeded given current)) told = (
      told.2.0,
      (
        subst (λ n. limit < n) (sym told.2.1) told.2.2,
        (final_results request whole, final-fruits, told.2.1),
      ),
    )
    final-cause limit (last.Aggregation (aggregation.MemoryExceeded given current)) told =
        absurd told.2
    final-cause limit (last.Aggregation (aggregation.DateHistogramParseError part)) told =
        absurd told.2
    final-cause limit last.TooMany many = absurd many
    final-cause limit last.OutOfMemory none = tt
