-- The sources that a grouping asks for.
use Rattle.std.specs.Prelude.{◌≡◌, ℕ, ℤ, List, Bool, true, false, ⊤}
use Rattle.std.specs.Prelude.{Option, Some, None, Result, Ok, Err, unwrap_or, if◌then◌else◌}
use Rattle.agg_values.specs.Names.{Named}
use Rattle.agg_values.specs.declared.after_key.AfterKey.{AfterKey}
use Rattle.agg_values.specs.declared.order.Order.{Order}
use Rattle.agg_values.specs.declared.order.Order.TheVariants.{Asc, Desc}
use Rattle.agg_values.specs.declared.order.MissingOrder.{MissingOrder}
use Rattle.agg_values.specs.declared.order.MissingOrder.TheVariants as standing
use Rattle.agg_calendar.specs.declared.interval.CalendarInterval.{CalendarInterval}
use Rattle.agg_request_tree.specs.declared.source.CompositeAggregationSource as source
use source.{CompositeAggregationSource}
use source.TheVariants.{Terms, Histogram, DateHistogram}
use Rattle.peslumok_texts.specs.fields.Types.{type_of}
use Rattle.peslumok_texts.specs.declared.fields.field_type.FieldType.{FieldType}
use Rattle.peslumok_texts.specs.words.By.{Parts}
use Rattle.peslumok_texts.specs.declared.words.by.Missing.{Missing}
use Rattle.peslumok_texts.specs.declared.words.by.Missing.TheVariants as missing
use Rattle.peslumok_front.specs.grouping.Divisions.{division_by}
use Rattle.peslumok_front.specs.grouping.Mins.{least_asked}
use Rattle.peslumok_front.specs.declared.grouping.by_fault.ByFault.{ByFault}
use Rattle.peslumok_front.specs.declared.grouping.by_fault.ByFault.TheVariants as by_fault
use Rattle.peslumok_front.specs.declared.grouping.error.GroupingError.{GroupingError}
use Rattle.peslumok_front.specs.declared.grouping.error.GroupingError.TheVariants as error
use Rattle.peslumok_front.specs.declared.grouping.division.DateInterval.TheVariants.{Fixed}
use Rattle.peslumok_front.specs.declared.grouping.division.DateInterval.TheVariants.{Calendar}
use Rattle.peslumok_front.specs.declared.grouping.division.Division.{Division}
use Rattle.peslumok_front.specs.declared.grouping.division.Division.TheVariants.{Values, Width}
use Rattle.peslumok_front.specs.declared.grouping.division.Division.TheVariants.{Dates}
use Rattle.peslumok_front.specs.declared.grouping.source.SourceParts.{SourceParts}

-- ---- sources

-- a source is called as its field, where it has no name of its own
abbrev pub column_name : Parts → List ℕ
column_name by = unwrap_or by.name by.field

-- whether records without a value have a group
abbrev pub has_group : Missing → Bool
has_group missing.NoGroup = false
has_group _ = true

-- where that group stands
abbrev pub standing_of : Missing → MissingOrder
standing_of missing.First = standing.First
standing_of missing.Last = standing.Last
standing_of _ = standing.Default

-- the order that is asked for
abbrev pub order_asked : Bool → Order
order_asked is_descending = if is_descending then Desc else Asc

-- what a source has but for what its values are divided by
abbrev pub source_parts : Parts → Option AfterKey → SourceParts
source_parts by min = record {
  name = column_name by;
  field = by.field;
  order = order_asked by.is_descending;
  missing_bucket = has_group by.missing;
  missing_order = standing_of by.missing;
  min = min;
}

-- the source of the values themselves
abbrev pub values_source : SourceParts → CompositeAggregationSource
values_source made = Terms (record {
  name = made.name;
  field = made.field;
  order = made.order;
  missing_bucket = made.missing_bucket;
  missing_order = made.missing_order;
  min = made.min;
})

-- the source of the starts of intervals of a width
abbrev pub width_source : SourceParts → ℤ → CompositeAggregationSource
width_source made interval = Histogram (record {
  name = made.name;
  field = made.field;
  interval = interval;
  order = made.order;
  missing_bucket = made.missing_bucket;
  missing_order = made.missing_order;
  min = made.min;
})

-- the source of the starts of intervals of dates
abbrev pub date_source : SourceParts → Option (List ℕ) → Option CalendarInterval
    → Option (List ℕ) → CompositeAggregationSource
date_source made fixed calendar offset = DateHistogram (record {
  name = made.name;
  field = made.field;
  fixed_interval = fixed;
  calendar_interval = calendar;
  offset = offset;
  order = made.order;
  missing_bucket = made.missing_bucket;
  missing_order = made.missing_order;
  min = made.min;
})

-- the source whose values are divided so
abbrev pub divided_source : SourceParts → Division → CompositeAggregationSource
divided_source made Values = values_source made
divided_source made (Width interval) = width_source made interval
divided_source made (Dates (Fixed text) offset) = date_source made (Some text) None offset
divided_source made (Dates (Calendar unit) offset) = date_source made None (Some unit) offset

-- the source of a division and a least value, or what is wrong with the first of them that is
abbrev pub joined : Parts → Result Division ByFault → Result (Option AfterKey) ByFault
    → Result CompositeAggregationSource ByFault
joined by (Err why) min = Err why
joined by (Ok division) (Err why) = Err why
joined by (Ok division) (Ok min) = Ok (divided_source (source_parts by min) division)

-- the source of a field of a type, or what is wrong with it
abbrev pub source_by : FieldType → Parts → Result CompositeAggregationSource ByFault
source_by of by = joined by (division_by of by.interval by.offset) (least_asked of by.min)

-- the source that is asked for, or what is wrong with its interval, offset or least value
abbrev pub source_asked : Named FieldType → Parts → Result CompositeAggregationSource ByFault
source_asked types by = source_by (type_of types by.field) by

-- ---- why there is no source

-- the part that a fault is of
abbrev pub faulty_part : Parts → ByFault → Option (List ℕ)
faulty_part by (by_fault.Interval why) = by.interval
faulty_part by (by_fault.Offset why) = by.offset
faulty_part by (by_fault.Min why) = by.min

-- a part of a source is none of its field, for this reason
pub record HasFaultyPart (types : Named FieldType) (by : Parts) (field text : List ℕ)
    (why : ByFault) : Type 0 where
  pub of_field : by.field ≡ field
  pub of_part : faulty_part by why ≡ Some text
  pub refused : source_asked types by ≡ Err why

-- why a source isn't made: for want of memory, or by its interval, its offset or its least value
abbrev pub HasNoSource : Named FieldType → Parts → GroupingError → Type 0
HasNoSource types by error.OutOfMemory = ⊤
HasNoSource types by (error.By field text why) = HasFaultyPart types by field text why
HasNoSource types by _ = ⊥
