-- Metrics over two lists of documents.
use Rattle.std.proofs.Common.{List, ◌++◌, sym, ap, ◌∙◌, ◌+◌, ◌+ℤ◌}
use Rattle.std.specs.Int.{int_max, int_min}
use Rattle.agg_segment.specs.storage.Document.{Fields}
use Rattle.agg_request_tree.specs.Metrics.{best, best_of, numbers_of, sum_of}
use Rattle.agg_request_tree.specs.declared.aggregation.AggregationVariants.{AggregationVariants}
use Rattle.agg_request_tree.specs.declared.aggregation.AggregationVariants.TheVariants as asks
use Rattle.agg_request_tree.proofs.Metrics.{best-append, count-append, max-assoc, min-assoc}
use Rattle.agg_request_tree.proofs.Metrics.{numbers-append, sum-append}
use Rattle.agg_results.specs.metric_results.MetricMerging.{MetricsDiffer, MetricsMerged}
use Rattle.agg_results.specs.declared.metric_results.metric.IntermediateMetricResult as metrics
use metrics.{IntermediateMetricResult}
use metrics.TheVariants as m
use Rattle.agg_results.specs.StandsFor.{MetricStands}

module _ {B : Type 0} (documents others : List Fields) where
  -- two results of a metric as one are that of the documents of both
  pub metrics-joined : (a : AggregationVariants B) (r o w : IntermediateMetricResult)
      → MetricStands a documents r → MetricStands a others o → MetricsMerged r o w
      → MetricStands a (documents ++ others) w
  metrics-joined (asks.Count a) (m.Count r) (m.Count o) (m.Count w) s t is =
      is ∙ (λ i. s i + t i) ∙ sym (count-append a.field documents others)
  metrics-joined (asks.Max a) (m.Max r) (m.Max o) (m.Max w) s t is =
      is ∙ (λ i. best int_max (s i) (t i))
      ∙ sym (best-append int_max max-assoc (numbers_of a.field documents)
      (numbers_of a.field others))
      ∙ ap (best_of int_max) (sym (numbers-append a.field documents others))
  metrics-joined (asks.Min a) (m.Min r) (m.Min o) (m.Min w) s t is =
      is ∙ (λ i. best int_min (s i) (t i))
      ∙ sym (best-append int_min min-assoc (numbers_of a.field documents)
      (numbers_of a.field others))
      ∙ ap (best_of int_min) (sym (numbers-append a.field documents others))
  metrics-joined (asks.Sum a) (m.Sum r) (m.Sum o) (m.Sum w) s t is =
      is ∙ (λ i. s i +ℤ t i)
      ∙ sym (sum-append (numbers_of a.field documents) (numbers_of a.field others))
      ∙ ap sum_of (sym (numbers-append a.field documents others))
  metrics-joined (asks.Count a) (m.Count r) (m.Count o) w s t is = absurd is
  metrics-joined (asks.Count a) (m.Count r) o w s t is = absurd t
  metrics-joined (asks.Max a) (m.Max r) (m.Max o) w s t is = absurd is
  metrics-joined (asks.Max a) (m.Max r) o w s t is = absurd t
  metrics-joined (asks.Min a) (m.Min r) (m.Min o) w s t is = absurd is
  metrics-joined (asks.Min a) (m.Min r) o w s t is = absurd t
  metrics-joined (asks.Sum a) (m.Sum r) (m.Sum o) w s t is = absurd is
  metrics-joined (asks.Sum a) (m.Sum r) o w s t is = absurd t
  metrics-joined a r o w s t is = absurd s

  -- they are of one kind
  pub metrics-alike : (a : AggregationVariants B) (r o : IntermediateMetricResult)
      → MetricStands a documents r → MetricStands a others o → ¬ (MetricsDiffer r o)
  metrics-alike (asks.Count a) (m.Count r) (m.Count o) s t differ = differ
  metrics-alike (asks.Count a) (m.Count r) o s t differ = t
  metrics-alike (asks.Max a) (m.Max r) (m.Max o) s t differ = differ
  metrics-alike (asks.Max a) (m.Max r) o s t differ = t
  metrics-alike (asks.Min a) (m.Min r) (m.Min o) s t differ = differ
  metrics-alike (asks.Min a) (m.Min r) o s t differ = t
  metrics-alike (asks.Sum a) (m.Sum r) (m.Sum o) s t differ = differ
  metrics-alike (asks.Sum a) (m.Sum r) o s t differ = t
  metrics-alike a r o s t differ = s
