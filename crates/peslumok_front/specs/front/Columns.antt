-- The columns of the output.
use Rattle.std.specs.Prelude.{◌≡◌, ◌≢◌, ◌<◌, ◌++◌, ◌∷◌, ℕ, List, AllPairs, Bool, Some, map}
use Rattle.std.specs.Prelude.{slice_get, ⊤}
use Rattle.std.specs.List.{list_any}
use Rattle.std.specs.Str.{bytes_eq}
use Rattle.agg_values.specs.Names.{Named}
use Rattle.peslumok_texts.specs.fields.Types.{type_of}
use Rattle.peslumok_texts.specs.declared.fields.field_type.FieldType.{FieldType}
use Rattle.peslumok_texts.specs.declared.fields.field_type.FieldType.TheVariants as of
use Rattle.peslumok_texts.specs.words.By.{parts}
use Rattle.peslumok_texts.specs.declared.words.by.BySpec.{BySpec}
use Rattle.peslumok_texts.specs.declared.words.metric.Metric.{Metric}
use Rattle.peslumok_texts.specs.declared.words.metric.MetricKind.{MetricKind}
use Rattle.peslumok_texts.specs.declared.words.metric.MetricKind.TheVariants as kind
use Rattle.peslumok_front.specs.grouping.Request.{metric_name}
use Rattle.peslumok_front.specs.grouping.Sources.{column_name}
use Rattle.peslumok_front.specs.declared.grouping.grouping.Grouping.{Grouping}
use Rattle.peslumok_front.specs.tables.Columns.{header_of}
use Rattle.peslumok_front.specs.declared.tables.columns.TableColumn.{TableColumn}
use Rattle.peslumok_front.specs.declared.tables.columns.TableColumn.TheVariants as column
use Rattle.peslumok_front.specs.declared.front.failure.Failure.{Failure}
use Rattle.peslumok_front.specs.declared.front.failure.Failure.TheVariants as failure

-- the type in which a metric of a field is shown: a number of values is no value of the field, and
-- neither is a sum of dates
abbrev pub metric_type : MetricKind → FieldType → FieldType
metric_type kind.Count type = of.Plain
metric_type kind.Sum of.Date = of.Plain
metric_type kind.Sum (of.DateNumber unit) = of.Plain
metric_type kind.Sum type = type
metric_type kind.Min type = type
metric_type kind.Max type = type

-- the column of a source
abbrev pub key_column : Named FieldType → BySpec → TableColumn
key_column types by = column.Key (column_name (parts by)) (type_of types by.field.now)

-- the column of a metric
abbrev pub metric_column : Named FieldType → Metric → TableColumn
metric_column types metric =
    column.Metric (metric_name metric) (metric_type metric.kind (type_of types metric.field.now))

-- a column for each source, the number of records, and a column for each metric
abbrev pub columns_asked : Grouping → List TableColumn
columns_asked grouping =
    map (key_column grouping.types) grouping.by.items
    ++ column.Count ∷ map (metric_column grouping.types) grouping.metrics.items

-- no two columns have one name
abbrev pub HaveOwnHeaders : List TableColumn → Type 0
HaveOwnHeaders columns = AllPairs (λ c d. header_of c ≢ header_of d) columns

-- whether a column has this name
abbrev pub has_header : List ℕ → List TableColumn → Bool
has_header name columns = list_any (λ column. bytes_eq (header_of column) name) columns

-- two columns have this name
abbrev pub ShareHeader : List ℕ → List TableColumn → Type 0
ShareHeader name columns =
    (i j : ℕ) × (i < j) × (slice_get (map header_of columns) i ≡ Some name)
    × (slice_get (map header_of columns) j ≡ Some name)

-- why there are no columns: for want of memory, or since two of them have one name
abbrev pub HaveNoColumns : List TableColumn → Failure → Type 0
HaveNoColumns columns failure.OutOfMemory = ⊤
HaveNoColumns columns (failure.SameColumn name) = ShareHeader name columns
HaveNoColumns columns _ = ⊥
