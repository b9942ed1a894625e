-- What calls answer of one segment.
use Rattle.std.specs.Prelude.{◌∷◌, [], ℕ, Result, IfErr, OnOk, map}
use Rattle.agg_cache.specs.Limits.{Limits}
use Rattle.agg_segment.specs.Query.{matches}
use Rattle.agg_segment.specs.Segment.{Stored, documents_of}
use Rattle.agg_segment.specs.declared.query.QueryTree.{QueryTree}
use Rattle.agg_request_tree.specs.Request.{Request}
use Rattle.agg_results.specs.declared.intermediate_results.results.IntermediateAggregationResults
    as held
use held.{IntermediateAggregationResults}
use Rattle.agg_engine.specs.snapshot_results.Answers.{AnswersResults, IsMemoryRefusal}
use Rattle.agg_engine.specs.snapshot_results.Contexts.{MayBeCollected}
use Rattle.agg_engine.specs.snapshot_results.Documents.{matching_in}
use Rattle.agg_engine.specs.snapshot_results.MemoryLimits.{HaveRoom}
use Rattle.agg_engine.specs.declared.snapshot_results.context.SegmentContext.{SegmentContext}
use Rattle.agg_engine.specs.declared.snapshot_results.error.SnapshotError.{SnapshotError}

module _ (context : SegmentContext) where
  -- the segment of a context may be collected for some request and query
  abbrev pub IsReady : Type 0
  IsReady =
      (request : Request QueryTree) × (query : QueryTree) × (segment : Stored)
      × MayBeCollected request query (segment ∷ []) (context ∷ [])

  -- something is so of each request, query and segment for which it may be collected
  abbrev pub ForEach : (Request QueryTree → QueryTree → Stored → Type 0) → Type 0
  ForEach so =
      (request : Request QueryTree) (query : QueryTree) (segment : Stored)
      → MayBeCollected request query (segment ∷ []) (context ∷ []) → so request query segment

  -- what results are over its documents that match, by which steps
  abbrev pub AnswersSegment : ℕ → ℕ → Result IntermediateAggregationResults SnapshotError → Type 0
  AnswersSegment steps steps_now result =
      ForEach (λ request query segment.
      AnswersResults request (matching_in query (segment ∷ [])) steps steps_now result)

  module _ (limits : Limits) (result : Result IntermediateAggregationResults SnapshotError) where
    -- an error has its cause in the memory limit
    abbrev pub HasMemoryCause : Type 0
    HasMemoryCause =
        ForEach (λ request query segment.
        IfErr result (IsMemoryRefusal request query (segment ∷ []) limits))

    -- an Ok comes only where the limit has room for the low roof
    abbrev pub HasLowRoom : Type 0
    HasLowRoom =
        ForEach (λ request query segment. OnOk result
        (HaveRoom matches query request limits (map documents_of (segment ∷ []))))
