-- Which columns a source reads.
use Rattle.std.specs.Prelude.{Bool, true, false}
use Rattle.agg_values.specs.declared.column.ColumnPaginationOrder.{ColumnPaginationOrder}
use Rattle.agg_values.specs.declared.column.ColumnPaginationOrder.TheVariants as class
use Rattle.agg_segment.specs.storage.Columns.{type_class}
use Rattle.agg_segment.specs.declared.storage.hit.ColumnType.{ColumnType}
use Rattle.agg_request_tree.specs.declared.source.CompositeAggregationSource as kind
use kind.{CompositeAggregationSource}
use kind.TheVariants.{Terms, Histogram, DateHistogram}

-- whether a source reads the values of a class: a histogram numbers and dates, a date source dates
abbrev pub reads_class : CompositeAggregationSource → ColumnPaginationOrder → Bool
reads_class (Terms s) order = true
reads_class (Histogram s) class.Numeric = true
reads_class (Histogram s) class.DateTime = true
reads_class (Histogram s) order = false
reads_class (DateHistogram s) class.DateTime = true
reads_class (DateHistogram s) order = false

-- whether it reads those in columns of a type
abbrev pub reads_type : CompositeAggregationSource → ColumnType → Bool
reads_type source column_type = reads_class source (type_class column_type)
