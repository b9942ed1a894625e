-- What a call of a collector charges for the buckets that it opens.
use Rattle.std.specs.Prelude.{◌≡◌, ◌≤◌, ◌+◌, ◌-◌, ◌*◌, ◌++◌, ⊤, ℕ, List, Result, Ok, Err, length}
use Rattle.std.specs.List.{AllZip}
use Rattle.agg_values.specs.declared.request_error.AggregationError.{AggregationError}
use Rattle.agg_cache.specs.Limits.{IsExceeded, Limits, charged}
use Rattle.agg_cache.specs.declared.error.CollectError.{CollectError}
use Rattle.agg_cache.specs.declared.error.CollectError.TheVariants as refusal
use Rattle.agg_request_tree.specs.charges.Charges.{bucket_bytes}
use Rattle.agg_composite.specs.accessor.Encoding.{EncodedTuple, encoded_tuple_order}
use Rattle.agg_composite.specs.declared.accessor.request_data.CompositeAggReqData.{
  CompositeAggReqData,
}
use Rattle.agg_composite.specs.buckets.Cut.{counts_of, cut, spread, tuples_under}
use Rattle.agg_composite.specs.buckets.Page.{Page}
use Rattle.agg_composite.specs.buckets.Visits.{Visit}
use Rattle.agg_composite.specs.Composite.{Composite, num_buckets}
use Rattle.agg_composite.specs.Visits.{AnswersRange, StandsForVisit, TypedVisit}

-- the bytes of the buckets that a parent has more than it had, where it has the cut of what it had
-- with visits after it, which stand for these
pub record OpenedBytes (req : CompositeAggReqData) (parent : ℕ) (page : Page EncodedTuple)
    (typed : List TypedVisit) (bytes : ℕ) : Type 0 where
  pub visits : List (Visit EncodedTuple)
  pub stand : AllZip (StandsForVisit req) visits typed
  pub are : bytes ≡ bucket_bytes req.req.now
      * (length (cut encoded_tuple_order req.size
      (spread (counts_of page) ++ tuples_under parent visits)) - length page)

-- the bytes of the buckets that a collector holds more than before
abbrev pub more_bytes : {C : Type 0} → CompositeAggReqData → Composite C → Composite C → ℕ
more_bytes req old new = bucket_bytes req.req.now * (num_buckets new - num_buckets old)

-- an Ok has charged bytes of which this holds, which fit, and a refusal is of bytes of which it
-- holds, which don't fit
abbrev pub Charges : (ℕ → Type 0) → Limits → Limits → ℕ → ℕ → Result (Unit {0}) CollectError
    → Type 0
Charges are old new guard guard_now (Ok done) =
    (bytes : ℕ) × are bytes × (old.in_use + bytes ≤ old.memory_limit) × (new ≡ charged bytes old)
    × (guard_now ≡ guard + bytes)
Charges are old new guard guard_now (Err (refusal.Aggregation error)) =
    (bytes : ℕ) × are bytes × IsExceeded bytes old error
Charges are old new guard guard_now (Err _) = ⊤

-- what holds of an error of the limits, where that is why a call is refused
abbrev pub IfLimit : (AggregationError → Type 0) → Result (Unit {0}) CollectError → Type 0
IfLimit says (Err (refusal.Aggregation error)) = says error
IfLimit says _ = ⊤

-- a call is refused for its range exactly where not all is in range, and otherwise for too many
-- occurrences, for a limit or for memory alone
abbrev pub AnswersRangeOrLimit : Type 0 → Result (Unit {0}) CollectError → Type 0
AnswersRangeOrLimit in_range (Err (refusal.Aggregation error)) = in_range
AnswersRangeOrLimit in_range result = AnswersRange in_range result
