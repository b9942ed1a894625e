-- What calls answer of a snapshot's segments.
use Rattle.std.specs.Prelude.{◌≤◌, ◌+◌, ◌*◌, ℕ, List, Result, IfOk, OnOk, ⊤, map}
use Rattle.agg_cache.specs.Limits.{Limits}
use Rattle.agg_segment.specs.storage.Document.{Fields}
use Rattle.agg_segment.specs.Query.{matches}
use Rattle.agg_segment.specs.Segment.{Stored, documents_of}
use Rattle.agg_segment.specs.declared.query.QueryTree.{QueryTree}
use Rattle.agg_request_tree.specs.Ranges.{HasStartOutOfRange}
use Rattle.agg_request_tree.specs.Request.{Request}
use Rattle.agg_request_tree.specs.Uncut.{CountsTooMany}
use Rattle.agg_results.specs.declared.intermediate_results.results.IntermediateAggregationResults
    as held
use held.{IntermediateAggregationResults}
use Rattle.agg_results.specs.StandsFor.{StandsFor}
use Rattle.agg_engine.specs.snapshot_results.Documents.{matching_in}
use Rattle.agg_engine.specs.snapshot_results.MemoryLimits.{MayPassLimit}
use Rattle.agg_engine.specs.snapshot_results.Steps.{counted_of, past_named}
use Rattle.agg_engine.specs.declared.snapshot_results.error.SnapshotError.{SnapshotError}
use Rattle.agg_engine.specs.declared.snapshot_results.error.SnapshotError.TheVariants as error

-- why there are no results over the documents of segments that match: a bucket starts outside i64,
-- or, where none does, some aggregation counts too many, or, where none does, the memory limit is
-- passed within the roof of some segment; running out of memory needs no cause
abbrev pub IsRefusal : Request QueryTree → QueryTree → List Stored → Limits → SnapshotError
    → Type 0
IsRefusal request query segments limits error.BucketOutOfRange =
    HasStartOutOfRange request (matching_in query segments)
IsRefusal request query segments limits error.TooMany =
    (¬ (HasStartOutOfRange request (matching_in query segments)))
    × CountsTooMany matches request (matching_in query segments)
IsRefusal request query segments limits (error.MemoryExceeded told current) =
    (¬ (HasStartOutOfRange request (matching_in query segments)))
    × (¬ (CountsTooMany matches request (matching_in query segments)))
    × MayPassLimit matches query request limits (map documents_of segments) told current
IsRefusal request query segments limits error.OutOfMemory = ⊤

-- why starts are refused
abbrev pub IsStartRefusal : Request QueryTree → List Fields → SnapshotError → Type 0
IsStartRefusal request documents error.BucketOutOfRange = HasStartOutOfRange request documents
IsStartRefusal request documents _ = ⊥

-- why counts are refused; running out of memory needs no cause
abbrev pub IsCountRefusal : Request QueryTree → List Fields → SnapshotError → Type 0
IsCountRefusal request documents error.BucketOutOfRange = ⊥
IsCountRefusal request documents error.TooMany = CountsTooMany matches request documents
IsCountRefusal request documents (error.MemoryExceeded told current) = ⊥
IsCountRefusal request documents error.OutOfMemory = ⊤

-- why segments that may be collected have no results: the memory limit is passed within the roof of
-- some segment; running out of memory needs no cause
abbrev pub IsMemoryRefusal : Request QueryTree → QueryTree → List Stored → Limits → SnapshotError
    → Type 0
IsMemoryRefusal request query segments limits (error.MemoryExceeded told current) =
    MayPassLimit matches query request limits (map documents_of segments) told current
IsMemoryRefusal request query segments limits error.OutOfMemory = ⊤
IsMemoryRefusal request query segments limits _ = ⊥

-- results over documents: an Ok stands for them, with a step or more for each occurrence past the
-- bound of a composite at the top; whatever is answered, there are at most three steps for each
-- document that composites count
pub record AnswersResults (request : Request QueryTree) (documents : List Fields)
    (steps steps_now : ℕ) (result : Result IntermediateAggregationResults SnapshotError)
    : Type 0 where
  pub stands : IfOk result (λ results. StandsFor matches request documents results.results)
  pub least : (name : List ℕ)
      → OnOk result (steps + past_named name request documents ≤ steps_now)
  pub most : steps_now ≤ steps + 3 * counted_of matches request documents
