-- When what is held has no final results. What is held of each name is looked at within a depth,
-- and at some depth means at any: requests and results are finite.
use Rattle.std.specs.Prelude.{◌≡◌, ◌≢◌, ◌<◌, ◌⊎◌, ℕ, zero, suc, [], None, Any, ⊤}
use Rattle.agg_values.specs.Names.{value_of}
use Rattle.agg_values.specs.declared.request_error.AggregationError.{AggregationError}
use Rattle.agg_values.specs.declared.request_error.AggregationError.TheVariants as aggregation
use Rattle.agg_request_tree.specs.Request.{Request, agg_of, below_of}
use Rattle.agg_request_tree.specs.Source.{rules_of}
use Rattle.agg_request_tree.specs.declared.aggregation.AggregationVariants.{AggregationVariants}
use Rattle.agg_request_tree.specs.declared.aggregation.AggregationVariants.TheVariants as asks
use Rattle.agg_results.specs.final_results.BucketCount.{results_buckets}
use Rattle.agg_results.specs.declared.metric_results.metric.IntermediateMetricResult.TheVariants
    as m
use Rattle.agg_results.specs.intermediate_results.Final.{final_results}
use Rattle.agg_results.specs.intermediate_results.Intermediate.{Held, Parts, composite, entries_of}
use Rattle.agg_results.specs.intermediate_results.Intermediate.{filter, helds_below, metric}
use Rattle.agg_results.specs.intermediate_results.Intermediate.{orders_of, parts_of}
use Rattle.agg_results.specs.intermediate_results.Merging.{SomeOfBoth}
use Rattle.agg_results.specs.declared.intermediate_results as declared
use declared.error.FinalError.{FinalError}
use declared.error.FinalError.TheVariants as error

-- ---- names that aren't asked for

-- a name is held that isn't asked for, within a depth
abbrev pub HoldsUnknownWithin : {B : Type 0} → ℕ → Request B → Held → Type 0
HoldsUnknownWithin zero request held = ⊥
HoldsUnknownWithin (suc depth) request held =
    Any (λ r. value_of r.0 request ≡ None) held
    ⊎ SomeOfBoth (λ a r. Any (HoldsUnknownWithin depth (below_of a)) (helds_below (parts_of r)))
    request held

-- a name is held that isn't asked for, at some depth
abbrev pub HoldsUnknown : {B : Type 0} → Request B → Held → Type 0
HoldsUnknown request held = (depth : ℕ) × HoldsUnknownWithin depth request held

-- ---- results of another shape

-- what is held isn't of the aggregation's kind, or it is entries in other orders than those of the
-- sources
abbrev pub IsOther : {B : Type 0} → AggregationVariants B → Parts → Type 0
IsOther (asks.Filter a) (filter count whole) = ⊥
IsOther (asks.Composite a) (composite c) =
    (entries_of c ≢ []) × (orders_of c ≢ rules_of a.sources)
IsOther (asks.Count a) (metric (m.Count r)) = ⊥
IsOther (asks.Max a) (metric (m.Max r)) = ⊥
IsOther (asks.Min a) (metric (m.Min r)) = ⊥
IsOther (asks.Sum a) (metric (m.Sum r)) = ⊥
IsOther a r = ⊤

-- a result of another kind, or of entries in other orders, is held within a depth
abbrev pub HoldsOtherWithin : {B : Type 0} → ℕ → Request B → Held → Type 0
HoldsOtherWithin zero request held = ⊥
HoldsOtherWithin (suc depth) request held =
    SomeOfBoth (λ a r. IsOther (agg_of a) (parts_of r)
    ⊎ Any (HoldsOtherWithin depth (below_of a)) (helds_below (parts_of r))) request held

-- a result of another kind, or of entries in other orders, is held at some depth
abbrev pub HoldsOther : {B : Type 0} → Request B → Held → Type 0
HoldsOther request held = (depth : ℕ) × HoldsOtherWithin depth request held

-- ---- buckets

-- the final results have more buckets than the limit
abbrev pub HaveTooMany : {B : Type 0} → ℕ → Request B → Held → Type 0
HaveTooMany limit request held = limit < results_buckets (final_results request held)

-- the final results have more buckets than the limit, and the error tells both numbers
abbrev pub TellsTooMany : {B : Type 0} → ℕ → Request B → Held → AggregationError → Type 0
TellsTooMany limit request held (aggregation.BucketLimitExceeded given current) =
    (given ≡ limit) × (current ≡ results_buckets (final_results request held))
    × HaveTooMany limit request held
TellsTooMany limit request held _ = ⊥

-- ---- refusals

-- why there are no final results; want of memory needs no cause
abbrev pub IsNotFinal : {B : Type 0} → ℕ → Request B → Held → FinalError → Type 0
IsNotFinal limit request held error.UnknownAggregation = HoldsUnknown request held
IsNotFinal limit request held error.Mismatch =
    (¬ (HoldsUnknown request held)) × HoldsOther request held
IsNotFinal limit request held (error.Aggregation given) =
    (¬ (HoldsUnknown request held)) × (¬ (HoldsOther request held))
    × TellsTooMany limit request held given
IsNotFinal limit request held error.OutOfMemory = ⊤
IsNotFinal limit request held _ = ⊥

-- what may be final
pub record MayBeFinal {B : Type 0} (limit : ℕ) (request : Request B) (held : Held) : Type 0 where
  pub known : ¬ (HoldsUnknown request held)
  pub alike : ¬ (HoldsOther request held)
  pub few : ¬ (HaveTooMany limit request held)
