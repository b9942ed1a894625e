-- The cells of groups and of totals.
use Rattle.std.specs.Prelude.{◌≡◌, ℕ, ℤ, pos, List, [], ◌∷◌, Bool, true, false, if◌then◌else◌}
use Rattle.std.specs.Prelude.{Option, None, Some, decimal}
use Rattle.std.specs.List.{AllZip}
use Rattle.agg_values.specs.Names.{value_of}
use Rattle.agg_values.specs.declared.composite_key.CompositeKey.{CompositeKey}
use Rattle.agg_values.specs.declared.composite_key.CompositeKey.TheVariants as key
use Rattle.peslumok_texts.specs.fields.Shown.{IsNumberText, shown_number}
use Rattle.peslumok_texts.specs.declared.fields.field_type.FieldType.{FieldType}
use Rattle.peslumok_texts.specs.declared.fields.field_type.FieldType.TheVariants as of
use Rattle.agg_results.specs.declared.final_results.types as final
use final.AggregationResult.{AggregationResult}
use final.AggregationResult.TheVariants as result
use final.AggregationResults.{AggregationResults}
use final.CompositeBucketEntry.{CompositeBucketEntry}
use final.MetricResult.{MetricResult}
use final.MetricResult.TheVariants as metric
use Rattle.peslumok_front.specs.tables.Cells.{Shown, shows_bool, shows_nothing, shows_number}
use Rattle.peslumok_front.specs.tables.Cells.{shows_text}
use Rattle.peslumok_front.specs.tables.Columns.{is_key}
use Rattle.peslumok_front.specs.declared.tables.columns.TableColumn.{TableColumn}
use Rattle.peslumok_front.specs.declared.tables.columns.TableColumn.TheVariants as column

-- whether numbers of a type are shown as dates
abbrev pub is_date : FieldType → Bool
is_date of.Plain = false
is_date of.Text = false
is_date of.Date = true
is_date (of.DateNumber unit) = true
is_date (of.Decimal places) = false

-- the text of a number, which is no number where it is a date's
abbrev pub number_shown : FieldType → List ℕ → Shown
number_shown type text = if is_date type then shows_text text else shows_number text

-- a number, as its type shows it
abbrev pub IsNumberCell : FieldType → ℤ → Shown → Type 0
IsNumberCell type n cell =
    (text : List ℕ) × IsNumberText type n text × (cell ≡ number_shown type text)

-- a key, as the type of its field shows it
abbrev pub IsKeyCell : FieldType → Option CompositeKey → Shown → Type 0
IsKeyCell type None cell = cell ≡ shows_nothing
IsKeyCell type (Some key.Null) cell = cell ≡ shows_nothing
IsKeyCell type (Some (key.Bool b)) cell = cell ≡ shows_bool b
IsKeyCell type (Some (key.Str text)) cell = cell ≡ shows_text text
IsKeyCell type (Some (key.I64 n)) cell = IsNumberCell type (shown_number type n) cell
IsKeyCell type (Some (key.U64 n)) cell = IsNumberCell type (pos n) cell

-- the number that a metric gives
abbrev pub metric_value : MetricResult → Option ℤ
metric_value (metric.Count single) = single.value
metric_value (metric.Max single) = single.value
metric_value (metric.Min single) = single.value
metric_value (metric.Sum single) = single.value

-- the number that a result gives, where it is a metric's
abbrev pub number_of : Option AggregationResult → Option ℤ
number_of None = None
number_of (Some (result.BucketResult buckets)) = None
number_of (Some (result.MetricResult metric)) = metric_value metric

-- the number of a metric, by its name
abbrev pub metric_number : List ℕ → AggregationResults → Option ℤ
metric_number name metrics = number_of (value_of name metrics.0)

-- a metric's number, as its type shows it
abbrev pub IsMetricCell : FieldType → Option ℤ → Shown → Type 0
IsMetricCell type None cell = cell ≡ shows_nothing
IsMetricCell type (Some n) cell = IsNumberCell type n cell

-- what a group has in a column
abbrev pub IsGroupCell : CompositeBucketEntry → TableColumn → Shown → Type 0
IsGroupCell entry (column.Key name type) cell = IsKeyCell type (value_of name entry.key) cell
IsGroupCell entry column.Count cell = cell ≡ shows_number (decimal entry.doc_count)
IsGroupCell entry (column.Metric name type) cell =
    IsMetricCell type (metric_number name entry.sub_aggregation) cell

-- a group's cells, one for each column
abbrev pub ShowsGroup : List TableColumn → CompositeBucketEntry → List Shown → Type 0
ShowsGroup columns entry cells = AllZip (IsGroupCell entry) columns cells

-- what the totals have in a column, with this in the column of a key
abbrev pub IsTotalCell : List ℕ → ℕ → AggregationResults → TableColumn → Shown → Type 0
IsTotalCell label doc_count metrics (column.Key name type) cell = cell ≡ shows_text label
IsTotalCell label doc_count metrics column.Count cell = cell ≡ shows_number (decimal doc_count)
IsTotalCell label doc_count metrics (column.Metric name type) cell =
    IsMetricCell type (metric_number name metrics) cell

-- the totals' cells, one for each column, with this in the first column of a key and nothing in
-- the others
abbrev pub ShowsTotals : List ℕ → ℕ → AggregationResults → List TableColumn → List Shown → Type 0
ShowsTotals label doc_count metrics [] cells = cells ≡ []
ShowsTotals label doc_count metrics (column ∷ columns) [] = ⊥
ShowsTotals label doc_count metrics (column ∷ columns) (cell ∷ cells) =
    IsTotalCell label doc_count metrics column cell
    × ShowsTotals (if is_key column then [] else label) doc_count metrics columns cells
