-- Visits under a parent.
use Rattle.std.proofs.Common.{◌≡◌, ◌≢◌, ◌∙◌, refl, sym, ap, subst, ℕ, ◌<◌, List, [], ◌∷◌, ◌++◌}
use Rattle.std.proofs.Common.{◌⊎◌, inl, inr, length, get_or, arith, append-nil}
use Rattle.std.specs.List.{flat_map}
use Rattle.std.proofs.Math.ListN.{set}
use Rattle.std.proofs.lemmas.Bool.{cases_order}
use Rattle.std.proofs.lemmas.List.{get_or-set_other, get_or-set_same, get_or_default, length-set}
use Rattle.std.proofs.lemmas.List.{map-append}
use Rattle.agg_cache.specs.Waiting.{docs_of, is_id, under}
use Rattle.agg_cache.proofs.UnderIds.{docs_of-append, docs_of-other, docs_of-same}
use Rattle.agg_segment.specs.storage.Columns.{all_keys}
use Rattle.agg_segment.specs.Segment.{Stored, document_at, documents_at}
use Rattle.agg_request_tree.specs.Metrics.{values_of_field}
use Rattle.agg_request_tree.proofs.Metrics.{values-append}
use Rattle.agg_results.specs.declared.metric_results.metric.IntermediateMetricResult as intermediate
use intermediate.{IntermediateMetricResult}
use Rattle.agg_metric.specs.Collector.{Metric, MetricFor, MetricTakes, values_under}
use Rattle.agg_metric.specs.Metric.{IsTooMany, TakesIn, TooManyWith, metric_of}
use Rattle.agg_metric.specs.declared.request_data.MetricAggReqData.{MetricAggReqData}

same_or_not : (a b : ℕ) → (a ≡ b) ⊎ (a ≢ b)
same_or_not a b = elim (cases_order a b) as (λ _. (a ≡ b) ⊎ (a ≢ b)) [
  | inl same ↦ inl same
  | inr other ↦ inr (omega (arith, other))
]

module _ (segment : Stored) (req : MetricAggReqData) (old : Metric) (visited : List (ℕ × ℕ))
    (f : MetricFor segment req old visited) (parent : ℕ) (docs : List ℕ) where
  -- the columns have the values of documents
  values-read : (ds : List ℕ)
      → values_of_field req.field (documents_at segment ds) ≡ flat_map (all_keys old.columns) ds
  values-read [] = refl
  values-read (d ∷ ds) = (λ i. sym (f.read d) i ++ values-read ds i)

  -- the values of a parent with those of documents that are visited under it
  values-same : values_under segment req.field parent visited
      ++ flat_map (all_keys old.columns) docs
      ≡ values_under segment req.field parent (visited ++ under parent docs)
  values-same =
      let had = docs_of (is_id parent) visited in
      ap (λ vs. values_under segment req.field parent visited ++ vs) (sym (values-read docs))
      ∙ sym (values-append req.field (documents_at segment had) (documents_at segment docs))
      ∙ ap (values_of_field req.field) (sym (map-append (document_at segment) had docs))
      ∙ ap (λ ds. values_of_field req.field (documents_at segment (had ++ ds)))
      (sym (docs_of-same parent docs))
      ∙ ap (λ ds. values_of_field req.field (documents_at segment ds))
      (sym (docs_of-append parent visited (under parent docs)))

  -- another parent has none of them
  docs-other : (other : ℕ) → parent ≢ other
      → docs_of (is_id other) (visited ++ under parent docs) ≡ docs_of (is_id other) visited
  docs-other other differ =
      docs_of-append other visited (under parent docs)
      ∙ ap (λ ds. docs_of (is_id other) visited ++ ds) (docs_of-other other parent docs differ)
      ∙ append-nil (docs_of (is_id other) visited)

  module _ (within : parent < length old.metrics) (metric : IntermediateMetricResult)
      (is : metric ≡ get_or old.metrics parent metric) where
    -- the metric of a prepared parent is that of its visits
    metric-is : metric ≡ metric_of req.collecting_for
        (values_under segment req.field parent visited)
    metric-is =
        is ∙ get_or_default old.metrics parent metric (metric_of old.collecting_for []) within
        ∙ f.right parent

    -- so values that were too many with those that it had are too many in its visits
    pub visits-many : TooManyWith (flat_map (all_keys old.columns) docs) metric
        → IsTooMany req.collecting_for
        (values_under segment req.field parent (visited ++ under parent docs))
    visits-many many =
        subst (IsTooMany req.collecting_for) values-same
        (many req.collecting_for (values_under segment req.field parent visited) metric-is)

    module _ (taken : IntermediateMetricResult)
        (takes : TakesIn (flat_map (all_keys old.columns) docs) metric taken) where
      -- the metric of each parent, once that of one has taken its values in
      metric-taken : (other : ℕ) → (parent ≡ other) ⊎ (parent ≢ other)
          → get_or (set old.metrics parent taken) other (metric_of old.collecting_for [])
          ≡ metric_of req.collecting_for
          (values_under segment req.field other (visited ++ under parent docs))
      metric-taken other (inl same) =
          subst (λ p. get_or (set old.metrics parent taken) p (metric_of old.collecting_for [])
          ≡ metric_of req.collecting_for
          (values_under segment req.field p (visited ++ under parent docs))) same
          (get_or-set_same old.metrics parent taken (metric_of old.collecting_for []) within
          ∙ takes req.collecting_for (values_under segment req.field parent visited) metric-is
          ∙ ap (metric_of req.collecting_for) values-same)
      metric-taken other (inr differ) =
          get_or-set_other old.metrics parent other taken (metric_of old.collecting_for [])
          (λ same. differ (sym same))
          ∙ f.right other
          ∙ ap (λ ds. metric_of req.collecting_for
          (values_of_field req.field (documents_at segment ds))) (sym (docs-other other differ))

      visits-right : MetricFor segment req
          (record old { metrics = set old.metrics parent taken }) (visited ++ under parent docs)
      visits-right =
          record {
            asked = f.asked;
            read = f.read;
            right = λ other. metric-taken other (same_or_not parent other);
            unprepared = λ other past.
                let long = length-set old.metrics parent taken in
                docs-other other (omega (arith, past, long, within))
                ∙ f.unprepared other (omega (arith, past, long));
          }

-- so the collector made these visits
pub visits-taken : (old : Metric) (parent : ℕ) (docs : List ℕ)
    (metric taken : IntermediateMetricResult) → parent < length old.metrics
    → metric ≡ get_or old.metrics parent metric
    → TakesIn (flat_map (all_keys old.columns) docs) metric taken
    → MetricTakes (under parent docs) old (record old { metrics = set old.metrics parent taken })
visits-taken old parent docs metric taken within is takes =
    record {
      takes = λ segment req visited f.
          visits-right segment req old visited f parent docs within metric is taken takes;
      rest = refl;
    }
