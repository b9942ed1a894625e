-- The final results of what is held.
use Rattle.std.specs.Prelude.{[], Option, None, Some, map, pos, take}
use Rattle.agg_values.specs.Names.{Named, value_of}
use Rattle.agg_request_tree.specs.Request.{Request}
use Rattle.agg_request_tree.specs.Source.{Sources}
use Rattle.agg_request_tree.specs.declared.aggregation.Aggregation.{Aggregation}
use Rattle.agg_request_tree.specs.declared.aggregation.Aggregation.TheFolds.{fold-Aggregation}
use Rattle.agg_request_tree.specs.declared.aggregation.Aggregation.TheOpen.{Aggregation-F}
use Rattle.agg_request_tree.specs.declared.aggregation.AggregationVariants.{AggregationVariants}
use Rattle.agg_request_tree.specs.declared.aggregation.AggregationVariants.TheVariants as asks
use Rattle.agg_results.specs.declared.final_results.types as final
use final.AggregationResult.{AggregationResult}
use final.AggregationResults.{AggregationResults}
use final.CompositeBucketEntry.{CompositeBucketEntry}
use Rattle.agg_results.specs.metric_results.MetricShown.{final_metric, shown_count, shown_max}
use Rattle.agg_results.specs.metric_results.MetricShown.{shown_min, shown_sum}
use Rattle.agg_results.specs.intermediate_results.Intermediate.{Entries, Held, Parts, TupleEntry}
use Rattle.agg_results.specs.intermediate_results.Intermediate.{below_entry, composite, counts_of}
use Rattle.agg_results.specs.intermediate_results.Intermediate.{entries_of, filter, metric}
use Rattle.agg_results.specs.intermediate_results.Intermediate.{parts_of, target_size_of}
use Rattle.agg_results.specs.intermediate_results.Shown.{Results, last_tuple, shown_bucket}
use Rattle.agg_results.specs.intermediate_results.Shown.{shown_filter, shown_page}
use Rattle.agg_results.specs.declared.intermediate_results as declared
use declared.composite.IntermediateCompositeBucketResult.{IntermediateCompositeBucketResult}
use declared.results.IntermediateAggregationResult.{IntermediateAggregationResult}

-- the lowest of what is held, as many as the page has room for
abbrev pub lowest_of : IntermediateCompositeBucketResult → Entries
lowest_of c = take (target_size_of c) (entries_of c)

-- ---- of one aggregation, where those below it make these of what is held under their names

-- what an aggregation makes of what is held under its name, None where the name isn't held
abbrev pub Finish : Type 0
Finish = Option IntermediateAggregationResult → AggregationResult

-- the final results of names
abbrev pub finish_all : Named Finish → Held → Results
finish_all below held = map (λ b. (b.0, b.1 (value_of b.0 held))) below

-- an entry
abbrev pub final_bucket : Sources → Named Finish → TupleEntry → CompositeBucketEntry
final_bucket sources below e =
    shown_bucket sources (e.0, e.1.doc_count) (finish_all below (below_entry e.1))

-- a composite: its lowest entries, and the last tuple of a full page
abbrev pub final_page : Sources → Named Finish → IntermediateCompositeBucketResult
    → AggregationResult
final_page sources below c =
    shown_page sources (map (final_bucket sources below) (lowest_of c))
    (last_tuple (target_size_of c) (counts_of (lowest_of c)))

-- an aggregation whose name isn't held: no documents, no entries, no values
abbrev pub final_nothing : {B : Type 0} → AggregationVariants B → Named Finish → AggregationResult
final_nothing (asks.Filter a) below = shown_filter 0 (finish_all below [])
final_nothing (asks.Composite a) below = shown_page a.sources [] None
final_nothing (asks.Count a) below = shown_count 0
final_nothing (asks.Max a) below = shown_max None
final_nothing (asks.Min a) below = shown_min None
final_nothing (asks.Sum a) below = shown_sum (pos 0)

-- an aggregation of which this is held; what isn't of its kind, which is refused, counts as nothing
abbrev pub final_by : {B : Type 0} → AggregationVariants B → Named Finish → Parts
    → AggregationResult
final_by (asks.Filter a) below (filter count whole) = shown_filter count (finish_all below whole)
final_by (asks.Composite a) below (composite c) = final_page a.sources below c
final_by (asks.Count a) below (metric r) = final_metric r
final_by (asks.Max a) below (metric r) = final_metric r
final_by (asks.Min a) below (metric r) = final_metric r
final_by (asks.Sum a) below (metric r) = final_metric r
final_by a below r = final_nothing a below

-- an aggregation
abbrev pub final_step : {B : Type 0} → Aggregation-F B Finish → Finish
final_step a None = final_nothing a.agg a.sub_aggregation
final_step a (Some r) = final_by a.agg a.sub_aggregation (parts_of r)

-- ---- of a request

-- what an aggregation makes of what is held under its name
abbrev pub final_result : {B : Type 0} → Aggregation B → Finish
final_result {B = B} = fold-Aggregation B Finish final_step

-- the final result of each name
abbrev pub final_by_name : {B : Type 0} → Request B → Held → Results
final_by_name request held = map (λ a. (a.0, final_result a.1 (value_of a.0 held))) request

-- the final results of a request
abbrev pub final_results : {B : Type 0} → Request B → Held → AggregationResults
final_results request held = record { 0 = final_by_name request held }
