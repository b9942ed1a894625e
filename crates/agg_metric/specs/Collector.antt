-- What a collector has of the visits of its documents. A visit is a parent and a document.
use Rattle.std.specs.Prelude.{◌≡◌, ◌≤◌, ◌++◌, ℕ, List, [], get_or, length}
use Rattle.agg_values.specs.TypedKey.{CompositeIntermediateKey}
use Rattle.agg_cache.specs.Waiting.{docs_of, is_id}
use Rattle.agg_segment.specs.storage.Columns.{StoredColumn, all_keys}
use Rattle.agg_segment.specs.Segment.{Stored, document_at, documents_at}
use Rattle.agg_request_tree.specs.Metrics.{values_of_field}
use Rattle.agg_results.specs.declared.metric_results.metric.IntermediateMetricResult as intermediate
use intermediate.{IntermediateMetricResult}
use Rattle.agg_metric.specs.Metric.{metric_of}
use Rattle.agg_metric.specs.declared.request_data.MetricAggReqData.{MetricAggReqData}
use Rattle.agg_metric.specs.declared.request_data.StatsType.{StatsType}

-- a collector: what it computes, the columns that it reads, and the metric of each prepared parent
pub record Metric : Type 0 where
  pub collecting_for : StatsType
  pub columns : List StoredColumn
  pub metrics : List IntermediateMetricResult

-- the metric of a parent, that of no values where it isn't prepared
abbrev pub metric_at : Metric → ℕ → IntermediateMetricResult
metric_at collector parent = get_or collector.metrics parent (metric_of collector.collecting_for [])

-- the values of a field in the documents that were visited under a parent
abbrev pub values_under : Stored → List ℕ → ℕ → List (ℕ × ℕ) → List CompositeIntermediateKey
values_under segment field parent visits =
    values_of_field field (documents_at segment (docs_of (is_id parent) visits))

-- a collector is right for the visits that it made: it computes what is asked, of the columns that
-- have the field; the metric of each parent is that of the parent's visits, and a parent that isn't
-- prepared had none
pub record MetricFor (segment : Stored) (req : MetricAggReqData) (collector : Metric)
    (visited : List (ℕ × ℕ)) : Type 0 where
  pub asked : collector.collecting_for ≡ req.collecting_for
  pub read : (doc : ℕ) → all_keys collector.columns doc ≡ document_at segment doc req.field
  pub right : (parent : ℕ) → metric_at collector parent
      ≡ metric_of req.collecting_for (values_under segment req.field parent visited)
  pub unprepared : (parent : ℕ) → length collector.metrics ≤ parent
      → docs_of (is_id parent) visited ≡ []

-- parents are prepared: no metric changes
pub record Prepares (old new : Metric) : Type 0 where
  pub metrics : (parent : ℕ) → metric_at new parent ≡ metric_at old parent
  pub more : length old.metrics ≤ length new.metrics
  pub rest : new ≡ record old { metrics = new.metrics }

-- a collector made visits: where it was right, it is right with these after the others
pub record MetricTakes (visits : List (ℕ × ℕ)) (old new : Metric) : Type 0 where
  pub takes : (segment : Stored) (req : MetricAggReqData) (visited : List (ℕ × ℕ))
      → MetricFor segment req old visited → MetricFor segment req new (visited ++ visits)
  pub rest : new ≡ record old { metrics = new.metrics }
