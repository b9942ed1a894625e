-- Why a walk gave no pages. What is refused is bounded from both sides, by the bytes that are held
-- against the memory limit: the low roof of a segment, or its roof. Both are `IsRefusedBy`.
--               by the bytes of  segments        a snapshot              a walk
--     at least  the low roof     RefusedAtLeast  SnapshotRefusedAtLeast  WalkRefusedAtLeast
--     at most   the roof         RefusedAtMost   SnapshotRefusedAtMost   WalkRefusedAtMost
-- What is refused at least gives no pages in any run, and what is refused at most may in one.
-- `WalkFailsAtMost` adds the errors that come before any snapshot.
use Rattle.std.specs.Prelude.{◌≡◌, ◌≢◌, ◌<◌, ◌⊎◌, ◌+◌, ℕ, List, [], ◌∷◌, Bool, Option, Any, ⊤}
use Rattle.std.specs.Prelude.{filter}
use Rattle.std.specs.List.{All}
use Rattle.agg_values.specs.Nothing.{NoneIs}
use Rattle.agg_values.specs.declared.request_error.AggregationError.TheVariants as aggregation
use Rattle.agg_values.specs.declared.request_error.RequestError.TheVariants as refusal
use Rattle.agg_cache.specs.Limits.{Limits}
use Rattle.agg_segment.specs.storage.Document.{Fields}
use Rattle.agg_segment.specs.Query.{matches}
use Rattle.agg_segment.specs.SnapshotDocuments.{SnapshotDocuments}
use Rattle.agg_segment.specs.declared.query.QueryTree.{QueryTree}
use Rattle.agg_request_tree.specs.Faults.{IsSoundRequest, RequestHasFault}
use Rattle.agg_request_tree.specs.Matching.{built_matches}
use Rattle.agg_request_tree.specs.Ranges.{HasStartOutOfRange}
use Rattle.agg_request_tree.specs.Request.{Request}
use Rattle.agg_request_tree.specs.charges.Settled.{IsSettled}
use Rattle.agg_request_tree.specs.Uncut.{CountsTooMany}
use Rattle.agg_results.specs.final_results.BucketCount.{results_buckets}
use Rattle.agg_results.specs.declared.final_results.types.AggregationResults.{AggregationResults}
use Rattle.agg_results.specs.Results.{AreResults}
use Rattle.agg_request_tree.specs.ChangedRequest.{request_after, request_at_size}
use Rattle.agg_request_tree.specs.BuiltRequest.{SomeMakesNone}
use Rattle.agg_engine.specs.snapshot_results.MemoryLimits as memory
use memory.{TellsMemory, low_roof_in, roof_in}
use Rattle.agg_engine.specs.NamedComposite.{NamesComposite}
use Rattle.agg_engine.specs.Walk.{AreResultsAt, HasFault, HaveRoom, MayBeAsked, after_in}
use Rattle.agg_engine.specs.Walk.{matching_among}
use Rattle.agg_engine.specs.declared.walk.error.WalkError.{WalkError}
use Rattle.agg_engine.specs.declared.walk.error.WalkError.TheVariants as error

-- ---- a snapshot

module _ {B : Type 0} (is_match : B → Fields → Bool) (query : QueryTree) where
  -- a request may be counted over segments: no bucket starts outside i64, and the documents that
  -- are counted aren't too many
  abbrev pub MayBeCounted : Request B → List (List Fields) → Type 0
  MayBeCounted request segments =
      (¬ (HasStartOutOfRange request (matching_among query segments)))
      × (¬ (CountsTooMany is_match request (matching_among query segments)))

  -- the results of a request over segments have so many buckets
  abbrev pub HasBuckets : Request B → List (List Fields) → ℕ → Type 0
  HasBuckets request segments n =
      (results : AggregationResults)
      × AreResults is_match request (matching_among query segments) results
      × (n ≡ results_buckets results)

module _ {B : Type 0} (is_match : B → Fields → Bool) (limits : Limits) (query : QueryTree) where
  -- why a request has no results over segments, by the bytes of each: a bucket starts outside i64,
  -- or, where none does, too many documents are counted, or, where not, the memory limit is passed
  -- within the bytes of some segment, or, where each has room for its low roof, there are more
  -- buckets than the limit
  abbrev pub IsRefusedBy : (Request B → List Fields → ℕ) → Request B → List (List Fields)
      → WalkError → Type 0
  IsRefusedBy bytes request segments error.BucketOutOfRange =
      HasStartOutOfRange request (matching_among query segments)
  IsRefusedBy bytes request segments error.TooMany =
      (¬ (HasStartOutOfRange request (matching_among query segments)))
      × CountsTooMany is_match request (matching_among query segments)
  IsRefusedBy bytes request segments
      (error.Aggregation (aggregation.MemoryExceeded told current)) =
      MayBeCounted is_match query request segments
      × Any (λ documents. TellsMemory limits.memory_limit
      (limits.in_use + bytes request documents) 0 told current) segments
  IsRefusedBy bytes request segments
      (error.Aggregation (aggregation.BucketLimitExceeded given n)) =
      MayBeCounted is_match query request segments
      × memory.HaveRoom is_match query request limits segments
      × (given ≡ limits.bucket_limit) × (limits.bucket_limit < n)
      × HasBuckets is_match query request segments n
  IsRefusedBy bytes request segments _ = ⊥

  -- what is refused at most: for memory, where the limit is passed within the roof of a segment
  abbrev pub RefusedAtMost : Request B → List (List Fields) → WalkError → Type 0
  RefusedAtMost = IsRefusedBy (roof_in is_match query)

  -- what is refused at least: for memory, where the limit is passed within the low roof
  abbrev pub RefusedAtLeast : Request B → List (List Fields) → WalkError → Type 0
  RefusedAtLeast = IsRefusedBy (low_roof_in is_match query)

-- ---- a walk

module _ {B : Type 0} (is_match : B → Fields → Bool) (limits : Limits) (name : List ℕ)
    (query : QueryTree) where
  -- a request is refused at a snapshot at most so
  abbrev pub SnapshotRefusedAtMost : Request B → SnapshotDocuments → WalkError → Type 0
  SnapshotRefusedAtMost request s =
      RefusedAtMost is_match limits query (request_at_size name s.page_size request) s.segments

  -- a request is refused at a snapshot at least so
  abbrev pub SnapshotRefusedAtLeast : Request B → SnapshotDocuments → WalkError → Type 0
  SnapshotRefusedAtLeast request s =
      RefusedAtLeast is_match limits query (request_at_size name s.page_size request) s.segments

  -- the walk reaches a snapshot where this is so: at those before it, its requests don't have to be
  -- refused, and their pages are full
  abbrev pub Reaches : (Request B → SnapshotDocuments → Type 0) → Request B
      → List SnapshotDocuments → Type 0
  Reaches IsSo request [] = ⊥
  Reaches IsSo request (s ∷ snapshots) =
      IsSo request s
      ⊎ (NoneIs (SnapshotRefusedAtLeast request s)
      × ((r : AggregationResults)
      × AreResultsAt is_match name query request s r
      × (after_in name r ≢ [])
      × Reaches IsSo (request_after name (after_in name r) request) snapshots))

  -- a walk is refused at most so: it reaches a snapshot where its request is
  abbrev pub WalkRefusedAtMost : Request B → List SnapshotDocuments → WalkError → Type 0
  WalkRefusedAtMost request snapshots error =
      Reaches (λ now s. SnapshotRefusedAtMost now s error) request snapshots

  -- a walk is refused at least so: it reaches a snapshot where its request is
  abbrev pub WalkRefusedAtLeast : Request B → List SnapshotDocuments → WalkError → Type 0
  WalkRefusedAtLeast request snapshots error =
      Reaches (λ now s. SnapshotRefusedAtLeast now s error) request snapshots

module _ {B : Type 0} (is_match : B → Fields → Bool) (name : List ℕ) (query : QueryTree) where
  -- at each snapshot that a walk reaches, its request is settled over the documents of each segment
  -- that match
  abbrev pub AreSettled : Request B → List SnapshotDocuments → Type 0
  AreSettled request [] = ⊤
  AreSettled request (s ∷ snapshots) =
      All (λ documents. IsSettled is_match (request_at_size name s.page_size request)
      (filter (matches query) documents)) s.segments
      × ((r : AggregationResults) → AreResultsAt is_match name query request s r
      → after_in name r ≢ []
      → AreSettled (request_after name (after_in name r) request) snapshots)

module _ {B : Type 0} (query_for : B → Option QueryTree) (limits : Limits) (name : List ℕ)
    (query : QueryTree) where
  -- the errors of a walk at most: each has its cause; running out of memory needs none
  abbrev pub WalkFailsAtMost : Request B → List SnapshotDocuments → WalkError → Type 0
  WalkFailsAtMost request snapshots (error.Invalid fault) = HasFault request snapshots fault
  WalkFailsAtMost request snapshots error.UnknownComposite = ¬ (NamesComposite name request)
  WalkFailsAtMost request snapshots error.QueryBuild =
      IsSoundRequest request × HaveRoom snapshots × NamesComposite name request
      × SomeMakesNone query_for request
  WalkFailsAtMost request snapshots (error.Aggregation (aggregation.DateHistogramParseError part)) =
      RequestHasFault request (refusal.Aggregation (aggregation.DateHistogramParseError part))
  WalkFailsAtMost request snapshots error.OutOfMemory = ⊤
  WalkFailsAtMost request snapshots error =
      MayBeAsked query_for name request snapshots
      × WalkRefusedAtMost (built_matches query_for) limits name query request snapshots error
