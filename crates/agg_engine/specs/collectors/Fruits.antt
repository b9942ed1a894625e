-- The results of segments, and what is said of them as one.
use Rattle.std.specs.Prelude.{◌≡◌, ◌<◌, ◌^◌, ℕ, List, Bool, ⊤}
use Rattle.std.specs.List.{AllZip, flat_map}
use Rattle.agg_values.specs.declared.request_error.AggregationError.TheVariants as aggregation
use Rattle.agg_segment.specs.storage.Document.{Fields}
use Rattle.agg_segment.specs.Query.{matches}
use Rattle.agg_segment.specs.declared.query.QueryTree.{QueryTree}
use Rattle.agg_request_tree.specs.Request.{Request}
use Rattle.agg_request_tree.specs.Uncut.{ListsAsMany}
use Rattle.agg_results.specs.final_results.BucketCount.{results_buckets}
use Rattle.agg_results.specs.declared.final_results.types.AggregationResults.{AggregationResults}
use Rattle.agg_results.specs.declared.intermediate_results as held
use held.error.FinalError.{FinalError}
use held.error.FinalError.TheVariants as last
use Rattle.agg_results.specs.declared.metric_results.error.MergeError.{MergeError}
use Rattle.agg_results.specs.declared.metric_results.error.MergeError.TheVariants as merge
use held.results.IntermediateAggregationResults.{IntermediateAggregationResults}
use Rattle.agg_results.specs.Results.{AreResults}
use Rattle.agg_results.specs.StandsFor.{StandsFor}

-- the documents of some lists, one list after another
abbrev pub joined : List (List Fields) → List Fields
joined = flat_map (λ documents. documents)

-- results stand for lists of documents, each for its own
abbrev pub StandForEach : Request QueryTree → List (List Fields)
    → List IntermediateAggregationResults → Type 0
StandForEach request =
    AllZip (λ documents results. StandsFor matches request documents results.results)

-- why results that stand for documents don't merge: some aggregation lists 2^62 documents or more;
-- running out of memory needs no cause
abbrev pub IsMergeCause : Request QueryTree → List Fields → MergeError → Type 0
IsMergeCause request documents merge.Mismatch = ⊥
IsMergeCause request documents merge.TooMany = ListsAsMany matches (2 ^ 62) request documents
IsMergeCause request documents merge.OutOfMemory = ⊤

-- the results of a request over documents have more buckets than the limit
abbrev pub HaveMoreBuckets : {B : Type 0} → (B → Fields → Bool) → Request B → List Fields → ℕ → ℕ
    → Type 0
HaveMoreBuckets is_match request documents limit current =
    (limit < current)
    × ((results : AggregationResults) × AreResults is_match request documents results
    × (current ≡ results_buckets results))

-- why results that stand for documents have no final ones: some aggregation lists 2^62 documents
-- or more, or the results have more buckets than the limit; running out of memory needs no cause
abbrev pub IsFinalCause : {B : Type 0} → (B → Fields → Bool) → ℕ → Request B → List Fields
    → FinalError → Type 0
IsFinalCause is_match limit request documents last.TooMany =
    ListsAsMany is_match (2 ^ 62) request documents
IsFinalCause is_match limit request documents
    (last.Aggregation (aggregation.BucketLimitExceeded given current)) =
    (given ≡ limit) × HaveMoreBuckets is_match request documents limit current
IsFinalCause is_match limit request documents last.OutOfMemory = ⊤
IsFinalCause is_match limit request documents _ = ⊥
