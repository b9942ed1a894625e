-- What tells how often a node of a request lists documents of a segment.
use Rattle.std.specs.Prelude.{◌≡◌, ℕ, List, Bool, true, false, filter_map, length}
use Rattle.agg_values.specs.Names.{Named}
use Rattle.agg_values.specs.TypedKey.{CompositeIntermediateKey}
use Rattle.agg_values.specs.declared.after_key.AfterKey.{AfterKey}
use Rattle.agg_segment.specs.storage.Columns.{StoredColumn, all_keys}
use Rattle.agg_segment.specs.declared.storage.hit.ColumnType.{ColumnType}
use Rattle.agg_segment.specs.declared.storage.hit.ColumnType.TheVariants as column
use Rattle.agg_segment.specs.Marks.{AreMarks}
use Rattle.agg_segment.specs.Query.{matches}
use Rattle.agg_segment.specs.Segment.{Stored, document_at}
use Rattle.agg_request_tree.specs.Matching.{filter_matches}
use Rattle.agg_request_tree.specs.Metrics.{number_of}
use Rattle.agg_request_tree.specs.Source.{Sources}
use Rattle.agg_request_tree.specs.declared.aggregation.AggregationVariants.TheVariants as asks
use Rattle.agg_composite.specs.accessor.Accessors.{Fits}
use Rattle.agg_composite.specs.declared.accessor.request_data.CompositeAggReqData.{
  CompositeAggReqData,
}
use Rattle.agg_metric.specs.declared.request_data.StatsType.{StatsType}
use Rattle.agg_metric.specs.declared.request_data.StatsType.TheVariants as stats
use Rattle.agg_engine_tree.specs.uncut.Uncut.{Asked}
use Rattle.agg_engine_tree.specs.declared.uncut.node_data.NodeData.{NodeData}
use Rattle.agg_engine_tree.specs.declared.uncut.node_data.NodeData.TheVariants as by

-- whether the keys of columns of a type are numbers or dates
abbrev pub has_numbers : ColumnType → Bool
has_numbers column.I64 = true
has_numbers column.U64 = true
has_numbers column.DateTime = true
has_numbers _ = false

-- how many of some values are read to compute this: all for a count, else numbers and dates
abbrev pub num_read : StatsType → List CompositeIntermediateKey → ℕ
num_read stats.Count keys = length keys
num_read _ keys = length (filter_map number_of keys)

-- data has accessors in a segment for these sources
abbrev pub HasAccessorsFor : Stored → Sources → CompositeAggReqData → Type 0
HasAccessorsFor segment sources req =
    (after : Named AfterKey) × Fits segment after req × (req.req.now.sources ≡ sources)

-- columns are those of a field: they have its keys in each document
abbrev pub AreColumnsOf : Stored → List ℕ → List StoredColumn → Type 0
AreColumnsOf segment field columns =
    (doc : ℕ) → all_keys columns doc ≡ document_at segment doc field

-- data is that of what an aggregation asks
abbrev pub IsDataOf : Stored → Asked → NodeData → Type 0
IsDataOf segment (asks.Composite a) (by.Composite req) =
    HasAccessorsFor segment a.sources req.now
IsDataOf segment (asks.Filter a) (by.Filter evaluator) =
    AreMarks (filter_matches matches a.query) segment evaluator.now
IsDataOf segment (asks.Count a) (by.Metric stats.Count columns) =
    AreColumnsOf segment a.field columns.now
IsDataOf segment (asks.Max a) (by.Metric stats.Max columns) =
    AreColumnsOf segment a.field columns.now
IsDataOf segment (asks.Min a) (by.Metric stats.Min columns) =
    AreColumnsOf segment a.field columns.now
IsDataOf segment (asks.Sum a) (by.Metric stats.Sum columns) =
    AreColumnsOf segment a.field columns.now
IsDataOf segment _ _ = ⊥
