-- There are results of each request over all documents.
use Rattle.std.proofs.Common.{◌≡◌, ℕ, zero, suc, List, [], ◌∷◌, Bool, refl, sym, ap}
use Rattle.std.proofs.Common.{subst, length, map}
use Rattle.std.specs.Int.{int_max, int_min}
use Rattle.std.specs.List.{AllZip}
use Rattle.agg_values.specs.Names.{Named}
use Rattle.agg_segment.specs.storage.Document.{Fields}
use Rattle.agg_request_tree.specs.Matching.{matching}
use Rattle.agg_request_tree.specs.Metrics.{best_of, numbers_of, sum_of, values_of_field}
use Rattle.agg_request_tree.specs.Occurrences.{bound_of}
use Rattle.agg_request_tree.specs.Page.{Entry, IsPage, group_of}
use Rattle.agg_request_tree.specs.Request.{Request, agg_of, below_of}
use Rattle.agg_request_tree.specs.Source.{Sources}
use Rattle.agg_request_tree.specs.declared.aggregation.Aggregation.{Aggregation}
use Rattle.agg_request_tree.specs.declared.aggregation.Aggregation.TheFolds as folds
use folds.{fold-Aggregation, fold_out-Aggregation}
use Rattle.agg_request_tree.specs.declared.aggregation.AggregationVariants.{AggregationVariants}
use Rattle.agg_request_tree.specs.declared.aggregation.AggregationVariants.TheVariants as asks
use Rattle.agg_request_tree.specs.declared.aggregation.CompositeAggregation.{CompositeAggregation}
use Rattle.agg_request_tree.proofs.PageExists.{page_exists}
use Rattle.agg_results.specs.declared.final_results.types as final
use final.AggregationResult.{AggregationResult}
use final.AggregationResults.{AggregationResults}
use final.CompositeBucketEntry.{CompositeBucketEntry}
use Rattle.agg_results.specs.metric_results.MetricShown.{shown_count, shown_max, shown_min}
use Rattle.agg_results.specs.metric_results.MetricShown.{shown_sum}
use Rattle.agg_results.specs.intermediate_results.Shown.{Results, shown_bucket, shown_filter}
use Rattle.agg_results.specs.intermediate_results.Shown.{shown_page}
use Rattle.agg_results.specs.Results.{AreResults, EachHas, IsBucket, IsResult, IsResultTo}
use Rattle.agg_results.specs.Results.{after_tuple}

-- the result of an aggregation over documents
abbrev Result : Type 0
Result = List Fields → AggregationResult

-- the results of names over documents
abbrev results_over : Named Result → List Fields → Results
results_over below documents = map (λ b. (b.0, b.1 documents)) below

-- the page of a composite over documents
abbrev page_over : CompositeAggregation → List Fields → List Entry
page_over a documents = (page_exists a.sources a.size (bound_of a.sources a.after) documents).0

page_over-is : (a : CompositeAggregation) (documents : List Fields)
    → IsPage a.sources a.size (bound_of a.sources a.after) documents (page_over a documents)
page_over-is a documents =
    (page_exists a.sources a.size (bound_of a.sources a.after) documents).1

-- an entry as it is shown, with the results over its documents
abbrev bucket_over : Sources → Named Result → Entry → CompositeBucketEntry
bucket_over sources below e = shown_bucket sources (group_of e) (results_over below e.documents)

module _ {B : Type 0} (is_match : B → Fields → Bool) where
  -- the result of what an aggregation asks, where those below it have these
  abbrev result_by : AggregationVariants B → Named Result → Result
  result_by (asks.Filter a) below documents =
      shown_filter (length (matching is_match a.query documents))
      (results_over below (matching is_match a.query documents))
  result_by (asks.Composite a) below documents =
      shown_page a.sources (map (bucket_over a.sources below) (page_over a documents))
      (after_tuple a.size (page_over a documents))
  result_by (asks.Count a) below documents =
      shown_count (length (values_of_field a.field documents))
  result_by (asks.Max a) below documents =
      shown_max (best_of int_max (numbers_of a.field documents))
  result_by (asks.Min a) below documents =
      shown_min (best_of int_min (numbers_of a.field documents))
  result_by (asks.Sum a) below documents = shown_sum (sum_of (numbers_of a.field documents))

  -- the result of an aggregation
  abbrev result_of : Aggregation B → Result
  result_of = fold-Aggregation B Result (λ a. result_by a.agg a.sub_aggregation)

  -- those of a request
  abbrev each_result : Request B → Named Result
  each_result request = map (λ a. (a.0, result_of a.1)) request

  result_of-out : (a : Aggregation B) (documents : List Fields)
      → result_of a documents ≡ result_by (agg_of a) (each_result (below_of a)) documents
  result_of-out a documents =
      ap (λ result. result documents)
      (fold_out-Aggregation B Result (λ b. result_by b.agg b.sub_aggregation) a)

  -- ---- one layer

  module _ (Below : Request B → List Fields → Results → Type 0) (below : Request B)
      (each : Named Result)
      (are : (documents : List Fields) → Below below documents (results_over each documents)) where
    buckets-are : (sources : Sources) (page : List Entry)
        → AllZip (IsBucket is_match Below sources below) page
        (map (bucket_over sources each) page)
    buckets-are sources [] = tt
    buckets-are sources (e ∷ page) =
        ((results_over each e.documents, are e.documents, refl), buckets-are sources page)

    result_by-is : (a : AggregationVariants B) (documents : List Fields)
        → IsResult is_match Below a below documents (result_by a each documents)
    result_by-is (asks.Filter a) documents =
        let matched = matching is_match a.query documents in
        (results_over each matched, are matched, refl)
    result_by-is (asks.Composite a) documents = (
      page_over a documents,
      map (bucket_over a.sources each) (page_over a documents),
      page_over-is a documents,
      buckets-are a.sources (page_over a documents),
      refl,
    )
    result_by-is (asks.Count a) documents = refl
    result_by-is (asks.Max a) documents = refl
    result_by-is (asks.Min a) documents = refl
    result_by-is (asks.Sum a) documents = refl

  -- ---- every depth

  each_result-is : (Has : Aggregation B → List Fields → AggregationResult → Type 0)
      → ((a : Aggregation B) (documents : List Fields) → Has a documents (result_of a documents))
      → (request : Request B) (documents : List Fields)
      → EachHas is_match Has request documents (results_over (each_result request) documents)
  each_result-is Has one [] documents = tt
  each_result-is Has one (a ∷ request) documents =
      ((refl, one a.1 documents), each_result-is Has one request documents)

  result_of-is : (depth : ℕ) (a : Aggregation B) (documents : List Fields)
      → IsResultTo is_match depth a documents (result_of a documents)
  result_of-is zero a documents = tt
  result_of-is (suc depth) a documents =
      subst (IsResultTo is_match (suc depth) a documents) (sym (result_of-out a documents))
      (result_by-is (EachHas is_match (IsResultTo is_match depth)) (below_of a)
      (each_result (below_of a))
      (each_result-is (IsResultTo is_match depth) (result_of-is depth) (below_of a))
      (agg_of a) documents)

  -- a request has results over all documents
  pub AreResults-exist : (request : Request B) (documents : List Fields)
      → (results : AggregationResults) × AreResults is_match request documents results
  AreResults-exist request documents = (
    record { 0 = results_over (each_result request) documents },
    λ depth. each_result-is (IsResultTo is_match depth) (result_of-is depth) request documents,
  )
