-- How many buckets results have: a bucket is one, besides those inside it. A filter and a metric
-- are none.
use Rattle.std.specs.Prelude.{◌+◌, ℕ, sum}
use Rattle.std.specs.Map.{values_of}
use Rattle.agg_results.specs.declared.final_results.types.AggregationResult.{AggregationResult}
use Rattle.agg_results.specs.declared.final_results.types.AggregationResult.TheFolds as folds
use folds.{fold-AggregationResult, fold-AggregationResults, fold-BucketResult}
use folds.{fold-CompositeBucketEntry}
use Rattle.agg_results.specs.declared.final_results.types.AggregationResult.TheOpen as opened
use opened.{AggregationResult-F, AggregationResults-F, BucketResult-F, CompositeBucketEntry-F}
use opened.{FilterBucketResult-F}
use Rattle.agg_results.specs.declared.final_results.types.AggregationResults.{AggregationResults}
use Rattle.agg_results.specs.declared.final_results.types.BucketResult.{BucketResult}
use Rattle.agg_results.specs.declared.final_results.types.CompositeBucketEntry.{
  CompositeBucketEntry,
}

-- ---- of each part, where its parts have so many

-- of a result: a metric has none
abbrev pub of_result : AggregationResult-F ℕ ℕ ℕ ℕ ℕ → ℕ
of_result (opened.BucketResult buckets) = buckets
of_result (opened.MetricResult metric) = 0

-- of a filter those inside it, and of a composite all its buckets
abbrev pub of_buckets : BucketResult-F ℕ ℕ ℕ ℕ ℕ → ℕ
of_buckets (opened.Filter inside) = inside
of_buckets (opened.Composite buckets after_key) = sum buckets

-- of results by name
abbrev pub of_results : AggregationResults-F ℕ ℕ ℕ ℕ ℕ → ℕ
of_results results = sum (values_of results.0)

-- of a bucket
abbrev pub of_entry : CompositeBucketEntry-F ℕ ℕ ℕ ℕ ℕ → ℕ
of_entry entry = 1 + entry.sub_aggregation

-- of a filter
abbrev pub of_filter : FilterBucketResult-F ℕ ℕ ℕ ℕ ℕ → ℕ
of_filter filter = filter.sub_aggregations

-- ---- of the whole

-- the buckets of an aggregation's result
abbrev pub result_buckets : AggregationResult → ℕ
result_buckets =
    fold-AggregationResult ℕ ℕ ℕ ℕ ℕ of_result of_buckets of_results of_entry of_filter

-- the buckets of a result that has buckets
abbrev pub bucket_result_buckets : BucketResult → ℕ
bucket_result_buckets =
    fold-BucketResult ℕ ℕ ℕ ℕ ℕ of_result of_buckets of_results of_entry of_filter

-- the buckets of results
abbrev pub results_buckets : AggregationResults → ℕ
results_buckets =
    fold-AggregationResults ℕ ℕ ℕ ℕ ℕ of_result of_buckets of_results of_entry of_filter

-- a bucket with those inside it
abbrev pub entry_buckets : CompositeBucketEntry → ℕ
entry_buckets =
    fold-CompositeBucketEntry ℕ ℕ ℕ ℕ ℕ of_result of_buckets of_results of_entry of_filter
