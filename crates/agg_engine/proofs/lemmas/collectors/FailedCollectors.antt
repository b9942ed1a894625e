-- Whether a collector has failed doesn't tell for which documents it is right.
use Rattle.std.proofs.Common.{◌≡◌, ◌++◌, ℕ, List, Bool, false, true, inl, inr, refl}
use Rattle.agg_values.specs.declared.request_error.AggregationError.TheVariants as aggregation
use Rattle.agg_cache.specs.Limits.{Limits}
use Rattle.agg_cache.specs.declared.error.CollectError.{CollectError}
use Rattle.agg_cache.specs.declared.error.CollectError.TheVariants as error
use Rattle.agg_segment.specs.Segment.{Stored}
use Rattle.agg_segment.specs.declared.query.QueryTree.{QueryTree}
use Rattle.agg_request_tree.specs.Request.{Request}
use Rattle.agg_engine.specs.collectors.Segment.{IsBlockCause, IsRightFor, IsRightForSome}
use Rattle.agg_engine.specs.collectors.Segment.{IsTreeCause, MayBeUsed, TakesBlock, TakesFew}
use Rattle.agg_engine.specs.collectors.Segment.{TakesInTree}
use Rattle.agg_engine.specs.declared.collectors.segment.AggregationSegmentCollector as declared
use declared.{AggregationSegmentCollector}

-- a collector that may be used and has not failed is right for some documents
pub right-usable : (old : AggregationSegmentCollector) → MayBeUsed old → old.has_failed ≡ false
    → IsRightForSome old
right-usable old (inl failed) works = absurd (cc (failed, works))
right-usable old (inr right) works = right

-- a collector is right for the same documents with another mark
pub right-marked : (old : AggregationSegmentCollector) (has_failed : Bool)
    (request : Request QueryTree) (segment : Stored) (docs : List ℕ) (visits : ℕ)
    → IsRightFor request segment docs visits old
    → IsRightFor request segment docs visits (record old { has_failed = has_failed })
right-marked old has_failed request segment docs visits r = record {
  reader = r.reader;
  meaning = r.meaning;
  same = r.same;
  right = r.right;
  names = r.names;
  within = r.within;
  numbers = r.numbers;
  counts = r.counts;
  range = r.range;
  few = r.few;
  charged = r.charged;
  fixed = r.fixed;
}

module _ (old : AggregationSegmentCollector) (docs : List ℕ) where
  -- the collector as it is marked while it takes documents
  abbrev marked : AggregationSegmentCollector
  marked = record old { has_failed = true }

  -- it takes as few steps
  pub few-marked : (steps steps_now : ℕ) → TakesFew docs marked steps steps_now
      → TakesFew docs old steps steps_now
  few-marked steps steps_now few = record {
    most = λ request segment taken visits r.
        few.most request segment taken visits
        (right-marked old true request segment taken visits r);
  }

  -- it refuses documents for the same causes
  pub cause-marked : (limits : Limits) (given : CollectError)
      → IsTreeCause docs marked limits given → IsBlockCause docs old limits given
  cause-marked limits error.BucketOutOfRange cause = λ request segment taken visits r.
      cause request segment taken visits (right-marked old true request segment taken visits r)
  cause-marked limits error.TooMany cause = λ request segment taken visits r.
      cause request segment taken visits (right-marked old true request segment taken visits r)
  cause-marked limits (error.Aggregation (aggregation.MemoryExceeded told current)) cause =
      λ request segment taken visits r.
      cause request segment taken visits (right-marked old true request segment taken visits r)
  cause-marked limits (error.Aggregation (aggregation.DateHistogramParseError part)) cause =
      absurd cause
  cause-marked limits (error.Aggregation (aggregation.BucketLimitExceeded told current)) cause =
      absurd cause
  cause-marked limits error.CollectorFailed cause = absurd cause
  cause-marked limits error.OutOfMemory cause = tt

  -- what it takes, it takes without a mark
  pub takes-marked : (new : AggregationSegmentCollector) (steps steps_now : ℕ)
      → old.has_failed ≡ false → TakesInTree docs marked new steps steps_now
      → TakesBlock docs old (record new { has_failed = false }) steps steps_now
  takes-marked new steps steps_now works took = record {
    working = works;
    takes = λ request segment taken visits right.
        let now = took.takes request segment taken visits
        (right-marked old true request segment taken visits right.right) in (
          now.0,
          record {
            right = right-marked new false request segment (taken ++ docs) now.0 now.1;
            working = refl;
          },
          now.2,
          now.3,
          now.4,
        );
  }

-- a collector that took documents may be used
pub usable-taken : (old new : AggregationSegmentCollector) (docs : List ℕ) (steps steps_now : ℕ)
    → IsRightForSome old → TakesBlock docs old new steps steps_now → MayBeUsed new
usable-taken old new docs steps steps_now (request, segment, taken, visits, right) took =
    let now = took.takes request segment taken visits
    (record { right = right; working = took.working }) in
    inr (request, segment, taken ++ docs, now.0, now.1.right)
