-- Intermediate results, opened.
use Rattle.std.specs.Prelude.{ℕ, List, [], ◌∷◌, map}
use Rattle.agg_values.specs.KeyOrder.{SourceRules}
use Rattle.agg_values.specs.Names.{Named}
use Rattle.agg_values.specs.Tuple.{KeyTuple}
use Rattle.agg_request_tree.specs.Groups.{Group}
use Rattle.agg_results.specs.declared.metric_results.metric.IntermediateMetricResult as metrics
use metrics.{IntermediateMetricResult}
use Rattle.agg_results.specs.declared.intermediate_results.results.IntermediateAggregationResult
    as declared
use declared.{IntermediateAggregationResult}
use declared.TheVariants.{Bucket, Metric}
use declared.TheViews.{out-IntermediateBucketResult}
use declared.TheOpen as opened
use Rattle.agg_results.specs.declared.intermediate_results as intermediate
use intermediate.results.IntermediateBucketResult.{IntermediateBucketResult}
use intermediate.results.IntermediateBucketResult.TheVariants as buckets
use intermediate.results.IntermediateAggregationResults.{IntermediateAggregationResults}
use intermediate.composite.IntermediateCompositeBucketResult as composites
use composites.{IntermediateCompositeBucketResult, out-IntermediateCompositeBucketResult}
use composites.{roll-IntermediateCompositeBucketResult}
use intermediate.entry.IntermediateTermBucketEntry.{IntermediateTermBucketEntry}

-- a tuple, and what is held of it
abbrev pub TupleEntry : Type 0
TupleEntry = KeyTuple × IntermediateTermBucketEntry

-- what a composite's result holds: entries by tuple
abbrev pub Entries : Type 0
Entries = List TupleEntry

-- intermediate results by name
abbrev pub Held : Type 0
Held = Named IntermediateAggregationResult

-- ---- a composite's result

-- the entries, ascending
abbrev pub entries_of : IntermediateCompositeBucketResult → Entries
entries_of composite = (out-IntermediateCompositeBucketResult composite).entries.1

-- the order and missing order of each source
abbrev pub orders_of : IntermediateCompositeBucketResult → SourceRules
orders_of composite = (out-IntermediateCompositeBucketResult composite).entries.0

-- how many entries a page has room for
abbrev pub target_size_of : IntermediateCompositeBucketResult → ℕ
target_size_of composite = (out-IntermediateCompositeBucketResult composite).target_size

-- the composite's result of these parts
abbrev pub composite_of : SourceRules → ℕ → Entries → IntermediateCompositeBucketResult
composite_of orders size entries =
    roll-IntermediateCompositeBucketResult (record {
      entries = (orders, entries);
      target_size = size;
    })

-- how often each tuple is held
abbrev pub counts_of : Entries → List Group
counts_of entries = map (λ e. (e.0, e.1.doc_count)) entries

-- what is held below an entry
abbrev pub below_entry : IntermediateTermBucketEntry → Held
below_entry entry = entry.sub_aggregation.results

-- an entry of a count, with nothing below it
abbrev pub plain_entry : ℕ → IntermediateTermBucketEntry
plain_entry count = record { doc_count = count; sub_aggregation = record { results = [] } }

-- ---- a result of any kind

-- a result by its parts
pub data Parts : Type 0 where
  metric : IntermediateMetricResult → Parts
  filter : ℕ → Held → Parts
  composite : IntermediateCompositeBucketResult → Parts

-- one layer of a result that has buckets
abbrev pub BucketLayer : Type 0
BucketLayer =
    opened.IntermediateBucketResult-F IntermediateAggregationResult IntermediateBucketResult
    IntermediateCompositeBucketResult IntermediateTermBucketEntry IntermediateAggregationResults

abbrev pub parts_of_layer : BucketLayer → Parts
parts_of_layer (opened.Filter doc_count below) = filter doc_count below.results
parts_of_layer (opened.Composite buckets) = composite buckets

-- the parts of a result that has buckets
abbrev pub parts_of_bucket : IntermediateBucketResult → Parts
parts_of_bucket bucket = parts_of_layer (out-IntermediateBucketResult bucket)

-- the parts of a result
abbrev pub parts_of : IntermediateAggregationResult → Parts
parts_of (Bucket bucket) = parts_of_bucket bucket
parts_of (Metric result) = metric result

-- a filter's result: how many documents match, and what is held below it
abbrev pub as_filter : ℕ → Held → IntermediateAggregationResult
as_filter count below = Bucket (buckets.Filter count (record { results = below }))

-- a composite's result as that of an aggregation
abbrev pub as_composite : IntermediateCompositeBucketResult → IntermediateAggregationResult
as_composite c = Bucket (buckets.Composite c)

-- what is held below a result: of a filter its results, of a composite those of each entry
abbrev pub helds_below : Parts → List Held
helds_below (metric r) = []
helds_below (filter count whole) = whole ∷ []
helds_below (composite c) = map (λ e. below_entry e.1) (entries_of c)
