-- The texts of the parts of results, which the text of results has inside.
use Rattle.std.specs.Prelude.{ℕ, List}
use Rattle.agg_results.specs.final_results.ResultsText.{texts_by}
use Rattle.agg_results.specs.declared.final_results.types.AggregationResult.{AggregationResult}
use Rattle.agg_results.specs.declared.final_results.types.AggregationResult.TheFolds as folds
use folds.{fold-AggregationResult, fold-BucketResult, fold-CompositeBucketEntry}
use folds.{fold-FilterBucketResult}
use Rattle.agg_results.specs.declared.final_results.types.BucketResult.{BucketResult}
use Rattle.agg_results.specs.declared.final_results.types.CompositeBucketEntry.{
  CompositeBucketEntry,
}
use Rattle.agg_results.specs.declared.final_results.types.FilterBucketResult.{FilterBucketResult}

-- the text of a result
abbrev pub result_text : AggregationResult → List ℕ
result_text = texts_by fold-AggregationResult

-- that of a result that has buckets
abbrev pub bucket_result_text : BucketResult → List ℕ
bucket_result_text = texts_by fold-BucketResult

-- that of a bucket
abbrev pub bucket_text : CompositeBucketEntry → List ℕ
bucket_text = texts_by fold-CompositeBucketEntry

-- that of a filter
abbrev pub filter_text : FilterBucketResult → List ℕ
filter_text = texts_by fold-FilterBucketResult
