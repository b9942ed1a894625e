-- The collector of a request in a segment, and what it took.
use Rattle.std.specs.Prelude.{◌≡◌, ◌≤◌, ◌<◌, ◌+◌, ◌*◌, ◌++◌, ◌⊎◌, ⊤, ℕ, List, All, length}
use Rattle.std.specs.Prelude.{false, true}
use Rattle.agg_values.specs.declared.request_error.AggregationError.{AggregationError}
use Rattle.agg_values.specs.declared.request_error.AggregationError.TheVariants as aggregation
use Rattle.agg_values.specs.declared.request_error.RequestError.TheVariants as fault
use Rattle.agg_cache.specs.Limits.{Limits}
use Rattle.agg_cache.specs.Waiting.{under}
use Rattle.agg_cache.specs.declared.error.CollectError.{CollectError}
use Rattle.agg_cache.specs.declared.error.CollectError.TheVariants as error
use Rattle.agg_segment.specs.storage.Document.{HasNumbersOf64Bits}
use Rattle.agg_segment.specs.Query.{matches}
use Rattle.agg_segment.specs.Segment.{Stored, documents_at, documents_of}
use Rattle.agg_segment.specs.declared.query.QueryTree.{QueryTree}
use Rattle.agg_request_tree.specs.Faults.{IsSoundRequest, RequestHasFault}
use Rattle.agg_request_tree.specs.Names.{NamesAscend}
use Rattle.agg_request_tree.specs.Ranges.{HasStartOutOfRange}
use Rattle.agg_request_tree.specs.Request.{Request}
use Rattle.agg_request_tree.specs.Uncut.{CountsTooMany}
use Rattle.agg_request_tree.specs.charges.Charges.{fixed_charge}
use Rattle.agg_request_tree.specs.charges.Roof.{low_roof, roof}
use Rattle.agg_engine_tree.specs.segment_context.Context.{Meaning}
use Rattle.agg_engine_tree.specs.declared.segment_context.error.SetupError.{SetupError}
use Rattle.agg_engine_tree.specs.declared.segment_context.error.SetupError.TheVariants as setup
use Rattle.agg_engine_tree.specs.uncut.Uncut.{uncut_lengths}
use Rattle.agg_engine_tree.specs.collector_tree.Counting.{counted_of}
use Rattle.agg_engine_tree.specs.collector_tree.Tree.{held_of}
use Rattle.agg_engine.specs.snapshot_results.ChargedTrees.{IsCharged}
use Rattle.agg_engine.specs.snapshot_results.MemoryLimits.{TellsMemory}
use Rattle.agg_engine.specs.snapshot_results.Trees.{IsRight}
use Rattle.agg_engine.specs.declared.collectors.segment.AggregationSegmentCollector as declared
use declared.{AggregationSegmentCollector}

-- an error is that memory is exceeded, and of the limit and the sum that it tells this holds
abbrev pub IsMemoryExceeded : (ℕ → ℕ → Type 0) → AggregationError → Type 0
IsMemoryExceeded Holds (aggregation.MemoryExceeded told current) = Holds told current
IsMemoryExceeded Holds _ = ⊥

-- more bytes than the limit would be in use with the fixed charge of a request in a segment of so
-- many documents, which the error tells
abbrev pub FixedTooMuch : {B : Type 0} → Request B → ℕ → Limits → ℕ → ℕ → Type 0
FixedTooMuch request documents limits =
    TellsMemory limits.memory_limit (limits.in_use + fixed_charge request documents) 0

-- why no collector is made: a fault of the request, or, where it has none, its fixed charge is too
-- much; running out of memory needs no cause
abbrev pub IsSetupCause : {B : Type 0} → Request B → ℕ → Limits → SetupError → Type 0
IsSetupCause request documents limits (setup.Invalid argument) =
    RequestHasFault request (fault.Invalid argument)
IsSetupCause request documents limits setup.QueryBuild = ⊥
IsSetupCause request documents limits (setup.Aggregation part) =
    RequestHasFault request (fault.Aggregation part)
    ⊎ (IsSoundRequest request × IsMemoryExceeded (FixedTooMuch request documents limits) part)
IsSetupCause request documents limits setup.OutOfMemory = ⊤

-- ---- what a collector took

-- a collector is right for documents of a segment that it took, with so many visits of composites:
-- what it holds of them is charged
pub record IsRightFor (request : Request QueryTree) (segment : Stored) (docs : List ℕ)
    (visits : ℕ) (collector : AggregationSegmentCollector) : Type 0 where
  pub reader : collector.reader.now ≡ segment
  pub meaning : Meaning
  pub same : meaning.segment ≡ segment
  pub right : IsRight collector.aggregations.per_request request meaning
      (held_of collector.tree.tree) (under 0 docs) visits
  pub names : NamesAscend request
  pub within : All (λ doc. doc < length (documents_of segment)) docs
  pub numbers : All HasNumbersOf64Bits (documents_of segment)
  pub counts : collector.counts ≡ uncut_lengths request (documents_at segment docs)
  pub range : ¬ (HasStartOutOfRange request (documents_at segment docs))
  pub few : ¬ (CountsTooMany matches request (documents_at segment docs))
  pub charged : IsCharged collector.aggregations.per_request collector.tree
  pub fixed : collector.tree.fixed ≡ fixed_charge request (length (documents_of segment))

-- a collector is right for documents that it took, and no call of it has failed
pub record CollectorFor (request : Request QueryTree) (segment : Stored) (docs : List ℕ)
    (visits : ℕ) (collector : AggregationSegmentCollector) : Type 0 where
  pub right : IsRightFor request segment docs visits collector
  pub working : collector.has_failed ≡ false

-- a collector is right for some documents
abbrev pub IsRightForSome : AggregationSegmentCollector → Type 0
IsRightForSome collector =
    (request : Request QueryTree) × (segment : Stored) × (docs : List ℕ) × (visits : ℕ)
    × IsRightFor request segment docs visits collector

-- a collector may be used: it has failed, or is right for some documents
abbrev pub MayBeUsed : AggregationSegmentCollector → Type 0
MayBeUsed collector = (collector.has_failed ≡ true) ⊎ IsRightForSome collector

-- ---- a block of documents

module _ (docs : List ℕ) (old : AggregationSegmentCollector) where
  -- the collector took documents after those that it took before: it is right for all of them, by
  -- one to three steps a visit
  pub record TakesInTree (new : AggregationSegmentCollector) (steps steps_now : ℕ) : Type 0 where
    pub takes : (request : Request QueryTree) (segment : Stored) (taken : List ℕ) (visits : ℕ)
        → IsRightFor request segment taken visits old
        → (visits_now : ℕ) × IsRightFor request segment (taken ++ docs) visits_now new
        × (visits ≤ visits_now)
        × (steps + visits_now ≤ steps_now + visits)
        × (steps_now + 3 * visits ≤ steps + 3 * visits_now)

  -- a collector that has not failed took documents after those before, by one to three steps each
  -- visit
  pub record TakesBlock (new : AggregationSegmentCollector) (steps steps_now : ℕ) : Type 0 where
    pub working : old.has_failed ≡ false
    pub takes : (request : Request QueryTree) (segment : Stored) (taken : List ℕ) (visits : ℕ)
        → CollectorFor request segment taken visits old
        → (visits_now : ℕ) × CollectorFor request segment (taken ++ docs) visits_now new
        × (visits ≤ visits_now)
        × (steps + visits_now ≤ steps_now + visits)
        × (steps_now + 3 * visits ≤ steps + 3 * visits_now)

  -- whatever is answered, the steps are at most three for each document that composites count of
  -- all, less what was visited before
  pub record TakesFew (steps steps_now : ℕ) : Type 0 where
    pub most : (request : Request QueryTree) (segment : Stored) (taken : List ℕ) (visits : ℕ)
        → IsRightFor request segment taken visits old
        → steps_now + 3 * visits
        ≤ steps + 3 * counted_of matches request (documents_at segment (taken ++ docs))

  -- a bucket of some of these documents starts outside 64 bits
  abbrev pub StartsOutOfRange : Type 0
  StartsOutOfRange =
      (request : Request QueryTree) (segment : Stored) (taken : List ℕ) (visits : ℕ)
      → IsRightFor request segment taken visits old
      → HasStartOutOfRange request (documents_at segment docs)

  -- no bucket starts out of range, and some aggregation lists too many documents in all
  abbrev pub ListsTooMany : Type 0
  ListsTooMany =
      (request : Request QueryTree) (segment : Stored) (taken : List ℕ) (visits : ℕ)
      → IsRightFor request segment taken visits old
      → (¬ (HasStartOutOfRange request (documents_at segment docs)))
      × CountsTooMany matches request (documents_at segment (taken ++ docs))

  module _ (limits : Limits) where
    -- no bucket starts out of range, few documents are listed, and more bytes than the limit may be
    -- in use with those of all documents: with the roof over them in the place of what the
    -- collector has charged
    abbrev pub TakesTooMuch : ℕ → ℕ → Type 0
    TakesTooMuch told current =
        (request : Request QueryTree) (segment : Stored) (taken : List ℕ) (visits : ℕ)
        → IsRightFor request segment taken visits old
        → (¬ (HasStartOutOfRange request (documents_at segment docs)))
        × (¬ (CountsTooMany matches request (documents_at segment (taken ++ docs))))
        × TellsMemory limits.memory_limit
        (limits.in_use + roof matches request (length (documents_of segment))
        (documents_at segment (taken ++ docs)))
        old.tree.guard told current

    -- why documents are refused; running out of memory needs no cause
    abbrev pub IsTreeCause : CollectError → Type 0
    IsTreeCause error.BucketOutOfRange = StartsOutOfRange
    IsTreeCause error.TooMany = ListsTooMany
    IsTreeCause (error.Aggregation part) = IsMemoryExceeded TakesTooMuch part
    IsTreeCause error.CollectorFailed = ⊥
    IsTreeCause error.OutOfMemory = ⊤

    -- why a block of documents is refused: a cause of the tree, or an earlier call has failed
    abbrev pub IsBlockCause : CollectError → Type 0
    IsBlockCause error.CollectorFailed = old.has_failed ≡ true
    IsBlockCause given = IsTreeCause given

-- ---- results

module _ (collector : AggregationSegmentCollector) (limits : Limits) where
  -- more bytes than the limit may be in use with those of what a collector took: with the roof over
  -- it in the place of what the collector has charged
  abbrev pub HoldsTooMuch : ℕ → ℕ → Type 0
  HoldsTooMuch told current =
      (request : Request QueryTree) (segment : Stored) (docs : List ℕ) (visits : ℕ)
      → IsRightFor request segment docs visits collector
      → TellsMemory limits.memory_limit
      (limits.in_use + roof matches request (length (documents_of segment))
      (documents_at segment docs))
      collector.tree.guard told current

  -- why a collector has no results: an earlier call has failed, or it holds too much; running out
  -- of memory needs no cause
  abbrev pub IsHarvestCause : CollectError → Type 0
  IsHarvestCause (error.Aggregation part) = IsMemoryExceeded HoldsTooMuch part
  IsHarvestCause error.CollectorFailed = collector.has_failed ≡ true
  IsHarvestCause error.OutOfMemory = ⊤
  IsHarvestCause _ = ⊥

  -- there is room for the low roof over what a collector took, in the place of what it has charged
  pub record HasRoom : Type 0 where
    pub room : (request : Request QueryTree) (segment : Stored) (docs : List ℕ) (visits : ℕ)
        → IsRightFor request segment docs visits collector
        → limits.in_use + low_roof matches request (length (documents_of segment))
        (documents_at segment docs)
        ≤ limits.memory_limit + collector.tree.guard

-- whatever is answered, the steps are at most three for each document that composites count of all
-- that was taken, less what was visited before
pub record HarvestsFew (collector : AggregationSegmentCollector) (steps steps_now : ℕ) : Type 0
  where
    pub most : (request : Request QueryTree) (segment : Stored) (docs : List ℕ) (visits : ℕ)
        → IsRightFor request segment docs visits collector
        → steps_now + 3 * visits
        ≤ steps + 3 * counted_of matches request (documents_at segment docs)

-- bytes are given back to a ledger
pub record GivesBack (bytes : ℕ) (old new : Limits) : Type 0 where
  pub in_use : new.in_use + bytes ≡ old.in_use
  pub memory_limit : new.memory_limit ≡ old.memory_limit
  pub bucket_limit : new.bucket_limit ≡ old.bucket_limit
