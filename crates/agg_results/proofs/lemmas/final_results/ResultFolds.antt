-- The text and the number of buckets of results, of a result and of a bucket, each from its parts.
use Rattle.std.proofs.Common.{◌≡◌, ◌+◌, ℕ, List, [], ◌∷◌, map, refl, ap, sym, ◌∙◌}
use Rattle.std.specs.Prelude.{codes, decimal, sum}
use Rattle.std.specs.Map.{values_of}
use Rattle.agg_values.specs.Names.{Named}
use Rattle.agg_values.specs.declared.after_key.AfterKey.{AfterKey}
use Rattle.agg_values.specs.declared.composite_key.CompositeKey.{CompositeKey}
use Rattle.agg_results.specs.final_results.BucketCount as count
use Rattle.agg_results.specs.final_results.BucketCount.{bucket_result_buckets, entry_buckets}
use Rattle.agg_results.specs.final_results.BucketCount.{result_buckets, results_buckets}
use Rattle.agg_results.specs.final_results.ResultsText as text
use Rattle.agg_results.specs.final_results.ResultsText.{Texts, braced, bucket_members}
use Rattle.agg_results.specs.final_results.ResultsText.{composite_members, filter_members}
use Rattle.agg_results.specs.final_results.ResultsText.{member_text, members_text, metric_text}
use Rattle.agg_results.specs.final_results.ResultsText.{object_text, results_members}
use Rattle.agg_results.specs.final_results.PartTexts.{bucket_result_text, bucket_text, result_text}
use Rattle.agg_results.specs.final_results.ResultsText.{results_text, shown_key_text}
use Rattle.agg_results.specs.declared.final_results.types.AggregationResult.TheFolds as folds
use folds.{fold-roll-AggregationResult, fold-roll-BucketResult}
use folds.{fold_out-AggregationResults, fold_out-CompositeBucketEntry}
use folds.{fold_out-FilterBucketResult}
use Rattle.agg_results.specs.declared.final_results.types.AggregationResult.TheOpen as opened
use Rattle.agg_results.specs.declared.final_results.types.AggregationResult.TheVariants as kind
use Rattle.agg_results.specs.declared.final_results.types.AggregationResults.{AggregationResults}
use Rattle.agg_results.specs.declared.final_results.types.BucketResult.{BucketResult}
use Rattle.agg_results.specs.declared.final_results.types.BucketResult.TheVariants as buckets
use Rattle.agg_results.specs.declared.final_results.types.CompositeBucketEntry.{
  CompositeBucketEntry,
}
use Rattle.agg_results.specs.declared.final_results.types.FilterBucketResult.{FilterBucketResult}
use Rattle.agg_results.specs.declared.final_results.types.MetricResult.{MetricResult}

-- ---- numbers of buckets

values_of-mapped : {A B : Type 0} (f : A → B) (entries : Named A)
    → values_of (map (λ e. (e.0, f e.1)) entries) ≡ map (λ e. f e.1) entries
values_of-mapped f [] = refl
values_of-mapped f (e ∷ entries) = ap (λ values. f e.1 ∷ values) (values_of-mapped f entries)

-- the buckets of results are those of each
pub results_buckets-sum : (results : AggregationResults)
    → results_buckets results ≡ sum (map (λ r. result_buckets r.1) results.0)
results_buckets-sum results =
    fold_out-AggregationResults ℕ ℕ ℕ ℕ ℕ count.of_result count.of_buckets count.of_results
    count.of_entry count.of_filter results
    ∙ ap sum (values_of-mapped result_buckets results.0)

-- the buckets of a result are those of its kind
pub result_buckets-kind : (result : BucketResult)
    → result_buckets (kind.BucketResult result) ≡ bucket_result_buckets result
result_buckets-kind result =
    ap result_buckets (sym (kind.rolls-BucketResult result))
    ∙ fold-roll-AggregationResult ℕ ℕ ℕ ℕ ℕ count.of_result count.of_buckets count.of_results
    count.of_entry count.of_filter (opened.BucketResult result)

-- a metric has no buckets
pub result_buckets-metric : (metric : MetricResult)
    → result_buckets (kind.MetricResult metric) ≡ 0
result_buckets-metric metric =
    ap result_buckets (sym (kind.rolls-MetricResult metric))
    ∙ fold-roll-AggregationResult ℕ ℕ ℕ ℕ ℕ count.of_result count.of_buckets count.of_results
    count.of_entry count.of_filter (opened.MetricResult metric)

-- the buckets of a filter are those inside it
pub bucket_result_buckets-inside : (filter : FilterBucketResult)
    → bucket_result_buckets (buckets.Filter filter) ≡ results_buckets filter.sub_aggregations
bucket_result_buckets-inside filter =
    ap bucket_result_buckets (sym (buckets.rolls-Filter filter))
    ∙ fold-roll-BucketResult ℕ ℕ ℕ ℕ ℕ count.of_result count.of_buckets count.of_results
    count.of_entry count.of_filter (opened.Filter filter)
    ∙ fold_out-FilterBucketResult ℕ ℕ ℕ ℕ ℕ count.of_result count.of_buckets count.of_results
    count.of_entry count.of_filter filter

-- the buckets of a composite are its own, with those inside each
pub bucket_result_buckets-sum : (entries : List CompositeBucketEntry) (after : Named AfterKey)
    → bucket_result_buckets (buckets.Composite entries after) ≡ sum (map entry_buckets entries)
bucket_result_buckets-sum entries after =
    ap bucket_result_buckets (sym (buckets.rolls-Composite entries after))
    ∙ fold-roll-BucketResult ℕ ℕ ℕ ℕ ℕ count.of_result count.of_buckets count.of_results
    count.of_entry count.of_filter (opened.Composite entries after)

-- a bucket is one, besides those inside it
pub entry_buckets-inside : (entry : CompositeBucketEntry)
    → entry_buckets entry ≡ 1 + results_buckets entry.sub_aggregation
entry_buckets-inside entry =
    fold_out-CompositeBucketEntry ℕ ℕ ℕ ℕ ℕ count.of_result count.of_buckets count.of_results
    count.of_entry count.of_filter entry

-- ---- texts

-- the members of results are the texts of each
pub results_members-each : (results : AggregationResults)
    → results_members results ≡ map (λ r. (r.0, result_text r.1)) results.0
results_members-each results =
    fold_out-AggregationResults (List ℕ) (List ℕ) Texts (List ℕ) (List ℕ) text.of_result
    text.of_buckets text.of_results text.of_entry text.of_filter results

object_text-mapped : {T : Type 0} (f : T → List ℕ) (entries : Named T)
    → map {A = List ℕ × List ℕ} (λ e. member_text e.0 e.1) (map (λ e. (e.0, f e.1)) entries)
    ≡ map (λ e. member_text e.0 (f e.1)) entries
object_text-mapped f [] = refl
object_text-mapped f (e ∷ entries) =
    ap (λ members. member_text e.0 (f e.1) ∷ members) (object_text-mapped f entries)

-- the text of results is an object of the texts of each
pub results_text-object : (results : AggregationResults)
    → results_text results ≡ object_text result_text results.0
results_text-object results =
    ap members_text (results_members-each results)
    ∙ ap braced (object_text-mapped result_text results.0)

-- the text of a result is that of its kind
pub result_text-kind : (result : BucketResult)
    → result_text (kind.BucketResult result) ≡ bucket_result_text result
result_text-kind result =
    ap result_text (sym (kind.rolls-BucketResult result))
    ∙ fold-roll-AggregationResult (List ℕ) (List ℕ) Texts (List ℕ) (List ℕ) text.of_result
    text.of_buckets text.of_results text.of_entry text.of_filter (opened.BucketResult result)

-- the text of a metric is that of its value
pub result_text-metric : (metric : MetricResult)
    → result_text (kind.MetricResult metric) ≡ metric_text metric
result_text-metric metric =
    ap result_text (sym (kind.rolls-MetricResult metric))
    ∙ fold-roll-AggregationResult (List ℕ) (List ℕ) Texts (List ℕ) (List ℕ) text.of_result
    text.of_buckets text.of_results text.of_entry text.of_filter (opened.MetricResult metric)

-- the text of a filter is an object of its members
pub bucket_result_text-filter : (filter : FilterBucketResult)
    → bucket_result_text (buckets.Filter filter) ≡ members_text (filter_members filter.doc_count
    (results_members filter.sub_aggregations))
bucket_result_text-filter filter =
    ap bucket_result_text (sym (buckets.rolls-Filter filter))
    ∙ fold-roll-BucketResult (List ℕ) (List ℕ) Texts (List ℕ) (List ℕ) text.of_result
    text.of_buckets text.of_results text.of_entry text.of_filter (opened.Filter filter)
    ∙ fold_out-FilterBucketResult (List ℕ) (List ℕ) Texts (List ℕ) (List ℕ) text.of_result
    text.of_buckets text.of_results text.of_entry text.of_filter filter

-- the text of a composite is an object of its members
pub bucket_result_text-members : (entries : List CompositeBucketEntry) (after : Named AfterKey)
    → bucket_result_text (buckets.Composite entries after)
    ≡ members_text (composite_members (map bucket_text entries) after)
bucket_result_text-members entries after =
    ap bucket_result_text (sym (buckets.rolls-Composite entries after))
    ∙ fold-roll-BucketResult (List ℕ) (List ℕ) Texts (List ℕ) (List ℕ) text.of_result
    text.of_buckets text.of_results text.of_entry text.of_filter (opened.Composite entries after)

-- the text of a bucket is an object of its members
pub bucket_text-members : (entry : CompositeBucketEntry)
    → bucket_text entry ≡ members_text (bucket_members entry.doc_count entry.key
    (results_members entry.sub_aggregation))
bucket_text-members entry =
    fold_out-CompositeBucketEntry (List ℕ) (List ℕ) Texts (List ℕ) (List ℕ) text.of_result
    text.of_buckets text.of_results text.of_entry text.of_filter entry

-- ---- without sub-results

-- a bucket without sub-results is one
pub entry_buckets-plain : (key : Named CompositeKey) (doc_count : ℕ)
    → entry_buckets (record {
      key = key;
      doc_count = doc_count;
      sub_aggregation = record { 0 = [] };
    }) ≡ 1
entry_buckets-plain key doc_count =
    entry_buckets-inside (record {
      key = key;
      doc_count = doc_count;
      sub_aggregation = record { 0 = [] };
    })
    ∙ ap (λ inside. 1 + inside) (results_buckets-sum (record { 0 = [] }))

-- the text of a bucket without sub-results has its number of occurrences and its key
pub bucket_text-plain : (key : Named CompositeKey) (doc_count : ℕ)
    → bucket_text (record {
      key = key;
      doc_count = doc_count;
      sub_aggregation = record { 0 = [] };
    })
    ≡ braced (
    member_text (codes "doc_count") (decimal doc_count)
    ∷ member_text (codes "key") (object_text shown_key_text key)
    ∷ [])
bucket_text-plain key doc_count =
    bucket_text-members (record {
      key = key;
      doc_count = doc_count;
      sub_aggregation = record { 0 = [] };
    })
    ∙ ap (λ members. members_text (bucket_members doc_count key members))
    (results_members-each (record { 0 = [] }))
