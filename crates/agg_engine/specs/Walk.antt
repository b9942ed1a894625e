-- The walk of a request over snapshots.
use Rattle.std.specs.Prelude.{◌≡◌, ◌≢◌, ◌⊎◌, ℕ, List, [], ◌∷◌, Bool, true, false, Option, None}
use Rattle.std.specs.Prelude.{Some, All, Any, filter}
use Rattle.std.specs.List.{flat_map}
use Rattle.agg_values.specs.Names.{Named, value_of}
use Rattle.agg_values.specs.declared.after_key.AfterKey.{AfterKey}
use Rattle.agg_values.specs.declared.error.InvalidArgument.{InvalidArgument}
use Rattle.agg_values.specs.declared.error.InvalidArgument.TheVariants.{ZeroSize}
use Rattle.agg_values.specs.declared.request_error.RequestError.TheVariants.{Invalid}
use Rattle.agg_segment.specs.storage.Document.{Fields}
use Rattle.agg_segment.specs.Query.{matches}
use Rattle.agg_segment.specs.declared.query.QueryTree.{QueryTree}
use Rattle.agg_request_tree.specs.Faults.{IsSoundRequest, RequestHasFault}
use Rattle.agg_request_tree.specs.Request.{Request}
use Rattle.agg_request_tree.specs.ChangedRequest.{request_after, request_at_size}
use Rattle.agg_request_tree.specs.BuiltRequest.{EachMakesTree}
use Rattle.agg_engine.specs.NamedComposite.{NamesComposite}
use Rattle.agg_results.specs.declared.final_results.types as final
use final.AggregationResult.{AggregationResult}
use final.AggregationResult.TheOpen as opened
use final.AggregationResult.TheVariants.{BucketResult, MetricResult}
use final.AggregationResults.{AggregationResults}
use final.BucketResult as buckets
use final.CompositeBucketEntry.{CompositeBucketEntry}
use final.FilterBucketResult.{FilterBucketResult}
use Rattle.agg_results.specs.Results.{AreResults}
use Rattle.agg_segment.specs.SnapshotDocuments.{SnapshotDocuments}

-- the documents of segments, joined, that a query matches
abbrev pub matching_among : QueryTree → List (List Fields) → List Fields
matching_among query segments = filter (matches query) (flat_map (λ documents. documents) segments)

-- the documents of a snapshot: those of its segments, joined
abbrev pub documents_in : SnapshotDocuments → List Fields
documents_in snapshot = flat_map (λ documents. documents) snapshot.segments

-- the documents of a snapshot that a query matches
abbrev pub matching_documents : QueryTree → SnapshotDocuments → List Fields
matching_documents query snapshot = matching_among query snapshot.segments

-- ---- after keys

-- the after key that the result of a composite shows
abbrev pub after_of_buckets : opened.BucketResult-F AggregationResult buckets.BucketResult
    AggregationResults CompositeBucketEntry FilterBucketResult → Named AfterKey
after_of_buckets (opened.Composite entries after_key) = after_key
after_of_buckets (opened.Filter filter) = []

-- the after key that a result shows, if it is that of a composite
abbrev pub after_of_result : Option AggregationResult → Named AfterKey
after_of_result (Some (BucketResult result)) = after_of_buckets (buckets.out-BucketResult result)
after_of_result (Some (MetricResult result)) = []
after_of_result None = []

-- the after key that results show under a name: that of a full page, and none where it isn't full
abbrev pub after_in : List ℕ → AggregationResults → Named AfterKey
after_in name results = after_of_result (value_of name results.0)

-- one of two, by whether a page shows an after key, as full ones do
abbrev pub IfFull : Named AfterKey → Type 0 → Type 0 → Type 0
IfFull [] WithRoom Full = WithRoom
IfFull (k ∷ after) WithRoom Full = Full

-- ---- the walk

module _ {B : Type 0} (is_match : B → Fields → Bool) (name : List ℕ) (query : QueryTree) where
  -- the results of a snapshot
  abbrev pub AreResultsAt : Request B → SnapshotDocuments → AggregationResults → Type 0
  AreResultsAt request s results =
      AreResults is_match (request_at_size name s.page_size request) (matching_documents query s)
      results

  -- the walk: each snapshot's results, as long as the page before is full; it has ended where a
  -- page isn't full; over no snapshot it has no page and has not ended
  abbrev pub IsWalk : Request B → List SnapshotDocuments → List AggregationResults → Bool → Type 0
  IsWalk request [] [] ended = ended ≡ false
  IsWalk request [] (r ∷ rs) ended = ⊥
  IsWalk request (s ∷ snapshots) [] ended = ⊥
  IsWalk request (s ∷ snapshots) (r ∷ rs) ended =
      AreResultsAt request s r
      × IfFull (after_in name r)
      ((rs ≡ []) × (ended ≡ true))
      (IsWalk (request_after name (after_in name r) request) snapshots rs ended)

-- ---- what may be asked

-- no page size is 0, of snapshots reached or not
abbrev pub HaveRoom : List SnapshotDocuments → Type 0
HaveRoom snapshots = All (λ s. s.page_size ≢ 0) snapshots

-- the request has this fault, or some page size is 0
abbrev pub HasFault : {B : Type 0} → Request B → List SnapshotDocuments → InvalidArgument → Type 0
HasFault request snapshots fault =
    RequestHasFault request (Invalid fault)
    ⊎ ((fault ≡ ZeroSize) × Any (λ s. s.page_size ≡ 0) snapshots)

-- a walk that may be asked, whatever its snapshots hold, of a request whose builders make these
-- queries
pub record MayBeAsked {B : Type 0} (query_for : B → Option QueryTree) (name : List ℕ)
    (request : Request B) (snapshots : List SnapshotDocuments) : Type 0 where
  pub sound : IsSoundRequest request
  pub room : HaveRoom snapshots
  pub named : NamesComposite name request
  pub each : EachMakesTree query_for request
