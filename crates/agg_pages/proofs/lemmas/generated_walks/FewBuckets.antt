-- The results of a generated request have few buckets.
use Rattle.std.proofs.Common.{◌≡◌, ◌≤◌, ◌+◌, List, [], ◌∷◌, Bool, length, map}
use Rattle.std.proofs.Common.{ap, refl, subst, ◌∙◌, arith}
use Rattle.std.specs.Prelude.{sum}
use Rattle.std.specs.List.{AllZip}
use Rattle.std.proofs.lemmas.List.Sums.{sum_by-cons}
use Rattle.agg_values.specs.Names.{Named}
use Rattle.agg_segment.specs.storage.Document.{Fields}
use Rattle.agg_request_tree.specs.Page.{Entry}
use Rattle.agg_request_tree.specs.Request.{Request, agg_of, below_of}
use Rattle.agg_request_tree.specs.Source.{Sources}
use Rattle.agg_request_tree.specs.declared.aggregation.AggregationVariants as variants
use variants.{AggregationVariants}
use variants.TheVariants.{Composite}
use Rattle.agg_request_tree.specs.declared.aggregation.CompositeAggregation.{CompositeAggregation}
use Rattle.agg_request_tree.proofs.RequestTrees.{agg-made, below-made}
use Rattle.agg_results.specs.final_results.BucketCount.{entry_buckets, result_buckets}
use Rattle.agg_results.specs.final_results.BucketCount.{results_buckets}
use Rattle.agg_results.specs.declared.final_results.types as final
use final.AggregationResult.{AggregationResult}
use final.AggregationResults.{AggregationResults}
use final.CompositeBucketEntry.{CompositeBucketEntry}
use Rattle.agg_results.proofs.lemmas.final_results.ResultFolds.{bucket_result_buckets-sum}
use Rattle.agg_results.proofs.lemmas.final_results.ResultFolds.{entry_buckets-inside}
use Rattle.agg_results.proofs.lemmas.final_results.ResultFolds.{result_buckets-kind}
use Rattle.agg_results.proofs.lemmas.final_results.ResultFolds.{result_buckets-metric}
use Rattle.agg_results.proofs.lemmas.final_results.ResultFolds.{results_buckets-sum}
use Rattle.agg_results.specs.Results.{AreResults, EachHas, IsBucket, IsPageShown, IsResult}
use Rattle.agg_results.specs.Results.{IsResultTo}
use Rattle.agg_pages.specs.generator.Request.{count_of_dates}
use Rattle.agg_pages.proofs.lemmas.generated_walks.GeneratedRequests.{aggregated, below, dates}
use Rattle.agg_pages.proofs.lemmas.generated_walks.GeneratedRequests.{request_of}

module _ {B : Type 0} (is_match : B → Fields → Bool) where
  -- what is told of the results below a composite, down to a depth of one
  abbrev Below : Request B → List Fields → Named AggregationResult → Type 0
  Below = EachHas is_match (IsResultTo is_match 1)

  -- the count below has no buckets
  none-inside : (documents : List Fields) (inside : Named AggregationResult)
      → Below below documents inside → sum (map (λ r. result_buckets r.1) inside) ≡ 0
  none-inside documents [] has = absurd has
  none-inside documents (r ∷ []) has =
      let is = subst
      (λ (agg : AggregationVariants B). IsResult is_match (EachHas is_match (IsResultTo is_match 0))
      agg (below_of (count_of_dates {B = B})) documents r.1)
      (agg-made dates []) has.0.1 in
      let none : result_buckets r.1 ≡ 0 = ap result_buckets is ∙ result_buckets-metric _ in
      omega arith
  none-inside documents (r ∷ s ∷ inside) has = absurd has.1

  -- a bucket counts as one
  bucket-one : (sources : Sources) (entry : Entry) (bucket : CompositeBucketEntry)
      → IsBucket is_match Below sources below entry bucket → entry_buckets bucket ≡ 1
  bucket-one sources entry bucket (inside, has, is) =
      entry_buckets-inside bucket
      ∙ ap (λ (b : CompositeBucketEntry). 1 + results_buckets b.sub_aggregation) is
      ∙ ap (λ n. 1 + n)
      (results_buckets-sum (record { 0 = inside }) ∙ none-inside entry.documents inside has)

  -- a page has as many buckets as entries
  page-buckets : (sources : Sources) (page : List Entry) (buckets : List CompositeBucketEntry)
      → AllZip (IsBucket is_match Below sources below) page buckets
      → sum (map entry_buckets buckets) ≡ length page
  page-buckets sources [] [] each = refl
  page-buckets sources [] (bucket ∷ buckets) each = absurd each
  page-buckets sources (entry ∷ page) [] each = absurd each
  page-buckets sources (entry ∷ page) (bucket ∷ buckets) each = omega (
    arith,
    sum_by-cons (λ n. n) (entry_buckets bucket) (map entry_buckets buckets),
    bucket-one sources entry bucket each.0,
    page-buckets sources page buckets each.1,
  )

  -- as many as there is room for at most
  page-few : (c : CompositeAggregation) (documents : List Fields) (s : AggregationResult)
      → IsPageShown is_match Below c below documents s → result_buckets s ≤ c.size
  page-few c documents s (page, buckets, is_page, each, is) =
      let short = is_page.short in
      let same : result_buckets s ≡ length page =
      ap result_buckets is
      ∙ result_buckets-kind _
      ∙ bucket_result_buckets-sum buckets _
      ∙ page-buckets c.sources page buckets each in
      omega arith

  -- the results of the request have no more buckets than the size
  results-few : (c : CompositeAggregation) (documents : List Fields)
      (results : Named AggregationResult)
      → EachHas is_match (IsResultTo is_match 2) (request_of c) documents results
      → sum (map (λ r. result_buckets r.1) results) ≤ c.size
  results-few c documents [] has = absurd has
  results-few c documents (r ∷ []) has =
      let few = page-few c documents r.1
      (subst
      (λ (agg : AggregationVariants B). IsResult is_match Below agg below documents r.1)
      (agg-made (Composite c) below)
      (subst
      (λ (rest : Request B). IsResult is_match Below (agg_of (aggregated c)) rest documents r.1)
      (below-made (Composite c) below) has.0.1)) in
      omega arith
  results-few c documents (r ∷ s ∷ results) has = absurd has.1

  -- results have no more buckets than the size of a page
  pub buckets-few : (c : CompositeAggregation) (documents : List Fields)
      (results : AggregationResults) → AreResults is_match (request_of c) documents results
      → results_buckets results ≤ c.size
  buckets-few c documents results are =
      omega (arith, results_buckets-sum results, results-few c documents results.0 (are 2))
