-- Results as they are shown.
use Rattle.std.specs.Prelude.{◌==◌, ℕ, List, [], Option, None, Some, if◌then◌else◌, length}
use Rattle.std.specs.List.{last_or}
use Rattle.std.specs.Map.{keys_of}
use Rattle.agg_values.specs.Names.{Named}
use Rattle.agg_values.specs.Shown.{shown_key}
use Rattle.agg_values.specs.Tuple.{KeyTuple}
use Rattle.agg_values.specs.declared.after_key.AfterKey.{AfterKey}
use Rattle.agg_request_tree.specs.BySource.{after_map, by_source}
use Rattle.agg_request_tree.specs.Groups.{Group}
use Rattle.agg_request_tree.specs.Source.{Sources}
use Rattle.agg_results.specs.declared.final_results.types as final
use final.AggregationResult.{AggregationResult}
use final.AggregationResult.TheVariants.{BucketResult}
use final.BucketResult.TheVariants as buckets
use final.CompositeBucketEntry.{CompositeBucketEntry}

-- results by name
abbrev pub Results : Type 0
Results = Named AggregationResult

-- the last tuple of groups that are as many as a page has room for; without room there is none
abbrev pub last_tuple : ℕ → List Group → Option KeyTuple
last_tuple size groups = if length groups == size then last_or None (keys_of groups) else None

-- a group: the key of each source by its name, the count, and the results below it
abbrev pub shown_bucket : Sources → Group → Results → CompositeBucketEntry
shown_bucket sources group below =
    record {
      key = by_source shown_key sources group.0;
      doc_count = group.1;
      sub_aggregation = record { 0 = below };
    }

-- the after key of a page, empty where the page isn't full
abbrev pub shown_after : Sources → Option KeyTuple → Named AfterKey
shown_after sources None = []
shown_after sources (Some tuple) = after_map sources tuple

-- the page of these buckets and this last tuple
abbrev pub shown_page : Sources → List CompositeBucketEntry → Option KeyTuple → AggregationResult
shown_page sources entries after =
    BucketResult (buckets.Composite entries (shown_after sources after))

-- a filter: how many documents match, and the results below it
abbrev pub shown_filter : ℕ → Results → AggregationResult
shown_filter count below =
    BucketResult (buckets.Filter (record {
      doc_count = count;
      sub_aggregations = record { 0 = below };
    }))
