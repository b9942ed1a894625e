-- What sources read in a segment, and where their after values stand there.
use Rattle.std.specs.Prelude.{◌≡◌, ◌==◌, ◌<◌, ℕ, List, Bool, true, false, Option, None, Some, ⊤}
use Rattle.std.specs.Prelude.{All, Ok, ℤ, pos, count_by, filter, filter_map, if◌then◌else◌, length}
use Rattle.std.specs.List.{AllZip}
use Rattle.std.specs.Ordering.{nat_cmp, is_lt, match_ordering}
use Rattle.std.specs.declared.cmp.Ordering.{Ordering}
use Rattle.std.specs.declared.cmp.Ordering.TheVariants.{Less, Greater}
use Rattle.agg_values.specs.KeyOrder.{key_order, null_side}
use Rattle.agg_values.specs.Names.{Named}
use Rattle.agg_values.specs.TypedKey.{CompositeIntermediateKey}
use Rattle.agg_values.specs.declared.typed_key.CompositeIntermediateKey.TheVariants.{Null}
use Rattle.agg_values.specs.declared.after_key.AfterKey.{AfterKey}
use Rattle.agg_values.specs.declared.error.InvalidArgument.TheVariants.{AfterType, NullAfter}
use Rattle.agg_values.specs.declared.order.Order.{Order}
use Rattle.agg_values.specs.declared.request_error.RequestError.{RequestError}
use Rattle.agg_values.specs.declared.request_error.RequestError.TheVariants as refusal
use Rattle.agg_calendar.specs.Start.{IsUsable}
use Rattle.agg_calendar.specs.declared.interval.PrecomputedDateInterval as interval
use interval.{PrecomputedDateInterval}
use interval.TheVariants.{NotApplicable}
use Rattle.agg_segment.specs.storage.Columns.{AreInKeyOrder, ClassesAscend, StandsForKey}
use Rattle.agg_segment.specs.storage.Columns.{StoredColumn, all_keys, encoded_key, type_of}
use Rattle.agg_segment.specs.Segment.{Stored, columns_in}
use Rattle.agg_request_tree.specs.Faults.{HasInterval, SourceHasFault}
use Rattle.agg_request_tree.specs.Source.{Sources, after_of, division_of, field_of, is_from}
use Rattle.agg_request_tree.specs.Source.{keys_in, min_of, missing_order_of, order_of, start_in}
use Rattle.agg_request_tree.specs.SourceColumns.{reads_type}
use Rattle.agg_request_tree.specs.declared.source.CompositeAggregationSource as kind
use kind.{CompositeAggregationSource}
use kind.TheVariants.{DateHistogram, Histogram, Terms}
use Rattle.agg_composite.specs.accessor.AfterKey.{projected_side}
use Rattle.agg_composite.specs.accessor.Classes.{is_of_class_before}
use Rattle.agg_composite.specs.accessor.Least.{AreLeastIn}
use Rattle.agg_composite.specs.accessor.Lanes.{columns_of, in_requested, keys_at, lane_of, lanes}
use Rattle.agg_composite.specs.declared.accessor.accessor.CompositeAccessor.{CompositeAccessor}
use Rattle.agg_composite.specs.declared.accessor.accessor.CompositeSourceAccessors.{
  CompositeSourceAccessors,
}
use Rattle.agg_composite.specs.declared.accessor.request_data.CompositeAggReqData.{
  CompositeAggReqData,
}

-- ---- columns

-- what a source divides its dates by, and by how much their buckets begin later
abbrev pub IsDivisionOf : CompositeAggregationSource → PrecomputedDateInterval → ℤ → Type 0
IsDivisionOf (Terms s) interval offset = (interval ≡ NotApplicable) × (offset ≡ pos 0)
IsDivisionOf (Histogram s) interval offset = (interval ≡ NotApplicable) × (offset ≡ pos 0)
IsDivisionOf (DateHistogram s) interval offset =
    (division_of s ≡ Ok (interval, offset)) × IsUsable interval

-- an accessor of a source has the interval and the offset of its dates, and a column that the
-- source reads, whose numbers are in the order of its keys
pub record IsAccessorOf (source : CompositeAggregationSource) (a : CompositeAccessor) : Type 0 where
  pub division : IsDivisionOf source a.date_histogram_interval a.date_offset_ns
  pub reads : reads_type source (type_of a.column.now.keys) ≡ true
  pub order : AreInKeyOrder a.column.now.keys

-- the columns that a source reads
abbrev pub columns_read : CompositeAggregationSource → List StoredColumn → List StoredColumn
columns_read source columns = filter (λ c. reads_type source (type_of c.keys)) columns

-- the keys of a document in columns that aren't below a source's least value
abbrev pub keys_from : CompositeAggregationSource → List StoredColumn → ℕ
    → List CompositeIntermediateKey
keys_from source columns doc = filter (is_from (min_of source)) (all_keys columns doc)

-- the keys in the columns of the source's accessors, by class ascending
abbrev pub keys_in_columns : CompositeAggregationSource → List CompositeAccessor → ℕ
    → List CompositeIntermediateKey
keys_in_columns source accessors doc =
    keys_from source (in_requested (order_of source) (columns_of accessors)) doc

-- the keys that the source gives for them
abbrev pub keys_read : CompositeAggregationSource → List CompositeAccessor → ℕ
    → List CompositeIntermediateKey
keys_read source accessors doc = keys_in source (keys_in_columns source accessors doc)

-- the starts of the buckets of values, where a source divides them
abbrev pub starts_in : CompositeAggregationSource → List CompositeIntermediateKey → List ℤ
starts_in source values = filter_map (start_in source) values

-- the accessors are one for each column of the source's field that the source reads, in the
-- requested order of classes, and it has what it divides values by
pub record AreOfField (segment : Stored) (source : CompositeAggregationSource)
    (accessors : List CompositeAccessor) : Type 0 where
  pub interval : HasInterval source
  pub each : All (IsAccessorOf source) accessors
  pub columns : in_requested (order_of source) (columns_of accessors)
      ≡ columns_read source (columns_in segment (field_of source))
  pub classes : ClassesAscend (in_requested (order_of source) (columns_of accessors))

-- ---- after values

-- how a key stands to an after value in a source's order; Greater where there is none
abbrev pub side_to : CompositeAggregationSource → Option CompositeIntermediateKey
    → CompositeIntermediateKey → Ordering
side_to source None k = Greater
side_to source (Some after) k = key_order (order_of source) (missing_order_of source) k after

-- whether an after value is Null
abbrev pub is_null : Option CompositeIntermediateKey → Bool
is_null (Some Null) = true
is_null _ = false

-- how many accessors have only keys that come before a key: by class, and before Null all or none
abbrev pub accessors_before : CompositeAggregationSource → CompositeIntermediateKey
    → List CompositeAccessor → ℕ
accessors_before source Null accessors =
    if null_side (order_of source) (missing_order_of source) == 2 then length accessors else 0
accessors_before source k accessors =
    count_by (λ a. is_of_class_before (order_of source) k a.column.now.keys) accessors

-- the lane after those that come before an after value, the first where there is none
abbrev pub index_of : CompositeAggregationSource → Option CompositeIntermediateKey
    → List CompositeAccessor → ℕ
index_of source None accessors = 0
index_of source (Some after) accessors =
    lane_of source (accessors_before source after accessors)

-- how a number of the lane at an index stands to the after value: below before its index, above
-- after it
abbrev pub side_at : Order → CompositeSourceAccessors → ℕ → ℕ → Ordering
side_at order a i number =
    match_ordering (nat_cmp i a.after_key_accessor_idx)
    Less (projected_side order a.after_key number) Greater

-- ---- accessors

-- the accessors of a source in a segment, for an after value if there is one
pub record AreAccessorsOf (segment : Stored) (source : CompositeAggregationSource)
    (after : Option CompositeIntermediateKey) (a : CompositeSourceAccessors) : Type 0 where
  pub columns : AreOfField segment source a.accessors
  pub explicit : a.is_after_key_explicit_missing ≡ is_null after
  pub skip : a.skip_missing ≡ is_lt (side_to source after Null)
  pub index : a.after_key_accessor_idx ≡ index_of source after a.accessors
  pub least : AreLeastIn (min_of source) a.accessors a.min
  pub sides : (i number : ℕ) → i < length (lanes source a.accessors)
      → StandsForKey (keys_at source a.accessors i) number
      → side_at (order_of source) a i number
      ≡ side_to source after (encoded_key (keys_at source a.accessors i) number)

-- which check finds a fault of a source: that of the Null, then of the interval, then of the type
abbrev pub check_of : RequestError → ℕ
check_of (refusal.Invalid NullAfter) = 0
check_of (refusal.Invalid AfterType) = 2
check_of _ = 1

-- the first fault of a source and its after value
abbrev pub IsFirstFault : CompositeAggregationSource → Option CompositeIntermediateKey
    → RequestError → Type 0
IsFirstFault source after error =
    SourceHasFault source after error
    × ((other : RequestError) → check_of other < check_of error
    → ¬ (SourceHasFault source after other))

-- a fact of an error that isn't want of memory
abbrev pub OrNoMemory : RequestError → Type 0 → Type 0
OrNoMemory refusal.OutOfMemory fact = ⊤
OrNoMemory error fact = fact

-- why a source has no accessors
abbrev pub HasNoAccessors : CompositeAggregationSource → Option CompositeIntermediateKey
    → RequestError → Type 0
HasNoAccessors source after error = OrNoMemory error (IsFirstFault source after error)

-- each source has its accessors in a segment, for its value in an after key
abbrev pub AllFit : Stored → Named AfterKey → Sources → List CompositeSourceAccessors → Type 0
AllFit segment after =
    AllZip (λ source a. AreAccessorsOf segment source (after_of after source) a)

-- the sources of request data have their accessors in a segment, for their after values
abbrev pub Fits : Stored → Named AfterKey → CompositeAggReqData → Type 0
Fits segment after req = AllFit segment after req.req.now.sources req.composite_accessors
