-- The results of a request over documents, as they are shown. An aggregation has others below it,
-- so its result is told down to a depth. What is so at every depth is the whole result, since
-- requests are finite: no request has two results over the same documents.
use Rattle.std.specs.Prelude.{◌≡◌, ℕ, zero, suc, List, Bool, Option, length, map, ⊤}
use Rattle.std.specs.Int.{int_max, int_min}
use Rattle.std.specs.List.{AllZip}
use Rattle.agg_values.specs.Tuple.{KeyTuple}
use Rattle.agg_segment.specs.storage.Document.{Fields}
use Rattle.agg_request_tree.specs.Matching.{matching}
use Rattle.agg_request_tree.specs.Metrics.{best_of, numbers_of, sum_of, values_of_field}
use Rattle.agg_request_tree.specs.Occurrences.{bound_of}
use Rattle.agg_request_tree.specs.Page.{Entry, IsPage, group_of}
use Rattle.agg_request_tree.specs.Request.{Request, agg_of, below_of}
use Rattle.agg_request_tree.specs.Source.{Sources}
use Rattle.agg_request_tree.specs.declared.aggregation.Aggregation.{Aggregation}
use Rattle.agg_request_tree.specs.declared.aggregation.AggregationVariants.{AggregationVariants}
use Rattle.agg_request_tree.specs.declared.aggregation.AggregationVariants.TheVariants as asks
use Rattle.agg_request_tree.specs.declared.aggregation.CompositeAggregation.{CompositeAggregation}
use Rattle.agg_results.specs.declared.final_results.types as final
use final.AggregationResult.{AggregationResult}
use final.AggregationResults.{AggregationResults}
use final.CompositeBucketEntry.{CompositeBucketEntry}
use Rattle.agg_results.specs.metric_results.MetricShown.{shown_count, shown_max, shown_min}
use Rattle.agg_results.specs.metric_results.MetricShown.{shown_sum}
use Rattle.agg_results.specs.intermediate_results.Shown.{Results, last_tuple, shown_bucket}
use Rattle.agg_results.specs.intermediate_results.Shown.{shown_filter, shown_page}

-- ---- pages

-- the last tuple of a page that has as many entries as it has room for
abbrev pub after_tuple : ℕ → List Entry → Option KeyTuple
after_tuple size page = last_tuple size (map group_of page)

module _ {B : Type 0} (is_match : B → Fields → Bool) where
  -- ---- of one aggregation, by what is told of the results of those below it

  module _ (Below : Request B → List Fields → Results → Type 0) where
    -- a bucket shows an entry of a page, with the results over the entry's documents
    abbrev pub IsBucket : Sources → Request B → Entry → CompositeBucketEntry → Type 0
    IsBucket sources below entry bucket =
        (inside : Results)
        × Below below entry.documents inside
        × (bucket ≡ shown_bucket sources (group_of entry) inside)

    -- the result of a composite shows its page
    abbrev pub IsPageShown : CompositeAggregation → Request B → List Fields → AggregationResult
        → Type 0
    IsPageShown composite below documents s =
        (page : List Entry) × (entries : List CompositeBucketEntry)
        × IsPage composite.sources composite.size
        (bound_of composite.sources composite.after) documents page
        × AllZip (IsBucket composite.sources below) page entries
        × (s ≡ shown_page composite.sources entries (after_tuple composite.size page))

    -- the result of a filter shows how many documents match, and the results over these
    abbrev pub IsFilterShown : List Fields → Request B → AggregationResult → Type 0
    IsFilterShown matched below s =
        (inside : Results) × Below below matched inside × (s ≡ shown_filter (length matched) inside)

    -- the result of an aggregation
    abbrev pub IsResult : AggregationVariants B → Request B → List Fields → AggregationResult
        → Type 0
    IsResult (asks.Filter a) below documents s =
        IsFilterShown (matching is_match a.query documents) below s
    IsResult (asks.Composite a) below documents s = IsPageShown a below documents s
    IsResult (asks.Count a) below documents s =
        s ≡ shown_count (length (values_of_field a.field documents))
    IsResult (asks.Max a) below documents s =
        s ≡ shown_max (best_of int_max (numbers_of a.field documents))
    IsResult (asks.Min a) below documents s =
        s ≡ shown_min (best_of int_min (numbers_of a.field documents))
    IsResult (asks.Sum a) below documents s = s ≡ shown_sum (sum_of (numbers_of a.field documents))

  -- ---- of a request

  -- one result for each name, of which this is told
  abbrev pub EachHas : (Aggregation B → List Fields → AggregationResult → Type 0) → Request B
      → List Fields → Results → Type 0
  EachHas Has request documents results =
      AllZip (λ a s. (s.0 ≡ a.0) × Has a.1 documents s.1) request results

  -- the result of an aggregation, down to a depth
  abbrev pub IsResultTo : ℕ → Aggregation B → List Fields → AggregationResult → Type 0
  IsResultTo zero a documents s = ⊤
  IsResultTo (suc depth) a documents s =
      IsResult (EachHas (IsResultTo depth)) (agg_of a) (below_of a) documents s

  -- the results of a request over documents, at every depth: depth 0 says nothing, and each greater
  -- one more; the law `each_request_has_one_result` says that there are such results, and only one
  abbrev pub AreResults : Request B → List Fields → AggregationResults → Type 0
  AreResults request documents results =
      (depth : ℕ) → EachHas (IsResultTo depth) request documents results.0
