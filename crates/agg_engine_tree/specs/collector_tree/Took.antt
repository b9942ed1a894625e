-- What one collector of a tree does with documents under parents.
use Rattle.std.specs.Prelude.{◌≡◌, ◌+◌, ◌*◌, ◌≤◌, ◌^◌, ◌++◌, ◌⊎◌, ℕ, List, Bool}
use Rattle.std.specs.Prelude.{IfErr, IsErrOf, OnOk, Result, filter, length}
use Rattle.agg_values.specs.Names.{Named}
use Rattle.agg_values.specs.declared.after_key.AfterKey.{AfterKey}
use Rattle.agg_cache.specs.declared.error.CollectError.{CollectError}
use Rattle.agg_cache.specs.declared.error.CollectError.TheVariants.{BucketOutOfRange, OutOfMemory}
use Rattle.agg_cache.specs.declared.error.CollectError.TheVariants.{TooMany}
use Rattle.agg_segment.specs.Segment.{Stored}
use Rattle.agg_composite.specs.accessor.Ranges.{AreAllInRange}
use Rattle.agg_composite.specs.declared.accessor.request_data.CompositeAggReqData.{
  CompositeAggReqData,
}
use Rattle.agg_composite.specs.buckets.Visits.{docs_in}
use Rattle.agg_composite.specs.Composite.{Composite, CompositeFor, num_buckets}
use Rattle.agg_filter.specs.Filter.{Filter, FilterFor}
use Rattle.agg_metric.specs.Collector.{Metric, MetricFor, MetricTakes, values_under}
use Rattle.agg_metric.specs.Metric.{IsTooMany}
use Rattle.agg_metric.specs.declared.request_data.MetricAggReqData.{MetricAggReqData}
use Rattle.agg_engine_tree.specs.collector_tree.Refusals.{AreNotLast}
use Rattle.agg_engine_tree.specs.collector_tree.Caches.{Cache, waiting_in}
use Rattle.agg_engine_tree.specs.collector_tree.Tree.{visits_of}

-- why a call of a tree is refused
abbrev pub IsRefusal : CollectError → Type 0
IsRefusal error = (error ≡ BucketOutOfRange) ⊎ ((error ≡ TooMany) ⊎ (error ≡ OutOfMemory))

-- ---- composites

module _ (req : CompositeAggReqData) (segment : Stored) (after : Named AfterKey) where
  -- a composite took documents under parents: where it was right, it is right with their visits
  -- after the others, by one to three steps a visit; it has no fewer buckets
  pub record CompositeTook (pairs : List (ℕ × ℕ)) (old new : Composite Cache) (steps steps_now : ℕ)
      : Type 0 where
    pub takes : (taken given : List (ℕ × ℕ))
        → CompositeFor waiting_in req old (visits_of req segment after taken) given
        → CompositeFor waiting_in req new (visits_of req segment after (taken ++ pairs)) given
    pub no_fewer : num_buckets old ≤ num_buckets new
    pub room : new.room ≡ old.room
    pub hands_on : new.hands_on ≡ old.hands_on
    pub least : steps + length (visits_of req segment after pairs) ≤ steps_now
    pub most : steps_now ≤ steps + 3 * length (visits_of req segment after pairs)

  -- what it answers for documents under parents; whatever that is, by at most three steps a visit
  pub record CompositeAnswers (pairs : List (ℕ × ℕ)) (old new : Composite Cache)
      (steps steps_now : ℕ) (result : Result (Unit {0}) CollectError) : Type 0 where
    pub ok : OnOk result (CompositeTook pairs old new steps steps_now)
    pub errors : IfErr result IsRefusal
    pub range : IsErrOf result BucketOutOfRange
        → ¬ (AreAllInRange segment req.req.now.sources (docs_in pairs))
    pub many : IsErrOf result TooMany → (taken given : List (ℕ × ℕ))
        → CompositeFor waiting_in req old (visits_of req segment after taken) given
        → 2 ^ 32 ≤ length (visits_of req segment after (taken ++ pairs))
    pub later : steps ≤ steps_now
    pub most : steps_now ≤ steps + 3 * length (visits_of req segment after pairs)

-- ---- filters

-- a filter took documents under parents: where it was right, it is right with these after the
-- others
pub record FilterTook (is_match : ℕ → Bool) (pairs : List (ℕ × ℕ)) (old new : Filter Cache)
    : Type 0 where
  pub takes : (taken given : List (ℕ × ℕ)) → FilterFor waiting_in is_match old taken given
      → FilterFor waiting_in is_match new (taken ++ pairs) given
  pub hands_on : new.hands_on ≡ old.hands_on

-- what it answers for documents under parents, of which these may have documents
pub record FilterAnswers (is_match : ℕ → Bool) (pairs : List (ℕ × ℕ)) (parents : List ℕ)
    (old new : Filter Cache) (result : Result (Unit {0}) CollectError) : Type 0 where
  pub ok : OnOk result (FilterTook is_match pairs old new)
  pub errors : IfErr result (λ error. (error ≡ TooMany) ⊎ (error ≡ OutOfMemory))
  pub many : IsErrOf result TooMany → AreNotLast parents → (taken given : List (ℕ × ℕ))
      → FilterFor waiting_in is_match old taken given
      → 2 ^ 32 ≤ length (filter is_match (docs_in (taken ++ pairs)))

-- ---- metrics

-- what a metric answers for documents under parents
pub record MetricAnswers (pairs : List (ℕ × ℕ)) (old new : Metric)
    (result : Result (Unit {0}) CollectError) : Type 0 where
  pub ok : OnOk result (MetricTakes pairs old new)
  pub errors : IfErr result (λ error. (error ≡ TooMany) ⊎ (error ≡ OutOfMemory))
  pub many : IsErrOf result TooMany → (segment : Stored) (req : MetricAggReqData)
      (taken : List (ℕ × ℕ)) → MetricFor segment req old taken
      → (parent : ℕ) × IsTooMany req.collecting_for (values_under segment req.field parent
      (taken ++ pairs))
