-- Sources, and the keys that they read.
use Rattle.std.specs.Prelude.{ℕ, ℤ, pos, List, [], ◌∷◌, Bool, true, Option, None, Some, Result, Ok}
use Rattle.std.specs.Prelude.{Err, filter, filter_map, map, not, option_map, if◌then◌else◌}
use Rattle.std.specs.Ordering.{is_lt}
use Rattle.std.specs.Int.{int_div_euclid}
use Rattle.agg_values.specs.KeyOrder.{SourceRules, key_order}
use Rattle.agg_values.specs.Names.{Named, value_of}
use Rattle.agg_values.specs.TypedKey.{CompositeIntermediateKey, canonical_key, typed_number}
use Rattle.agg_values.specs.declared.after_key.AfterKey.{AfterKey}
use Rattle.agg_values.specs.declared.typed_key.CompositeIntermediateKey.TheVariants as key
use Rattle.agg_values.specs.declared.order.Order.{Order}
use Rattle.agg_values.specs.declared.order.Order.TheVariants.{Asc}
use Rattle.agg_values.specs.declared.order.MissingOrder.{MissingOrder}
use Rattle.agg_values.specs.declared.order.MissingOrder.TheVariants.{Default}
use Rattle.agg_values.specs.declared.request_error.RequestError.{RequestError}
use Rattle.agg_calendar.specs.Interval.{division}
use Rattle.agg_calendar.specs.Start.{fixed_start, start_with_offset}
use Rattle.agg_calendar.specs.declared.interval.PrecomputedDateInterval as interval
use interval.{PrecomputedDateInterval}
use Rattle.agg_segment.specs.storage.Document.{Fields}
use Rattle.agg_request_tree.specs.declared.source.CompositeAggregationSource as kind
use kind.{CompositeAggregationSource}
use kind.TheVariants.{Terms, Histogram, DateHistogram}
use Rattle.agg_request_tree.specs.declared.source.DateHistogramCompositeAggregationSource as dates
use dates.{DateHistogramCompositeAggregationSource as Dates}

-- the sources of a composite
abbrev pub Sources : Type 0
Sources = List CompositeAggregationSource

-- the field that a source reads
abbrev pub field_of : CompositeAggregationSource → List ℕ
field_of (Terms s) = s.field
field_of (Histogram s) = s.field
field_of (DateHistogram s) = s.field

-- the name of a source
abbrev pub name_of : CompositeAggregationSource → List ℕ
name_of (Terms s) = s.name
name_of (Histogram s) = s.name
name_of (DateHistogram s) = s.name

-- the after value of a source, by its name
abbrev pub after_of : Named AfterKey → CompositeAggregationSource → Option CompositeIntermediateKey
after_of after source = option_map (λ k. k.0) (value_of (name_of source) after)

-- the direction in which a source's keys are listed
abbrev pub order_of : CompositeAggregationSource → Order
order_of (Terms s) = s.order
order_of (Histogram s) = s.order
order_of (DateHistogram s) = s.order

-- the place of Null among a source's keys
abbrev pub missing_order_of : CompositeAggregationSource → MissingOrder
missing_order_of (Terms s) = s.missing_order
missing_order_of (Histogram s) = s.missing_order
missing_order_of (DateHistogram s) = s.missing_order

-- whether a document without a value has the key Null
abbrev pub missing_bucket_of : CompositeAggregationSource → Bool
missing_bucket_of (Terms s) = s.missing_bucket
missing_bucket_of (Histogram s) = s.missing_bucket
missing_bucket_of (DateHistogram s) = s.missing_bucket

-- the key that a source has as its least value, if it has one
abbrev pub min_key_of : CompositeAggregationSource → Option AfterKey
min_key_of (Terms s) = s.min
min_key_of (Histogram s) = s.min
min_key_of (DateHistogram s) = s.min

-- the least value that a source reads, if it has one
abbrev pub min_of : CompositeAggregationSource → Option CompositeIntermediateKey
min_of source = option_map (λ k. k.0) (min_key_of source)

-- the order and the missing order of each source
abbrev pub rules_of : Sources → SourceRules
rules_of sources = map (λ s. (order_of s, missing_order_of s)) sources

-- the keys, or one Null where there is none and a missing value has a bucket
abbrev pub or_missing : Bool → List CompositeIntermediateKey → List CompositeIntermediateKey
or_missing missing [] = if missing then key.Null ∷ [] else []
or_missing missing (k ∷ ks) = k ∷ ks

-- the values of a field, numbers by value
abbrev pub values_at : List ℕ → Fields → List CompositeIntermediateKey
values_at field document = map canonical_key (document field)

-- whether a value isn't below a least one, by class and then by number, address or text
abbrev pub is_from : Option CompositeIntermediateKey → CompositeIntermediateKey → Bool
is_from None k = true
is_from (Some least) k = not (is_lt (key_order Asc Default k least))

-- the values of a source's field that aren't below its least one
abbrev pub values_from : CompositeAggregationSource → Fields → List CompositeIntermediateKey
values_from source document =
    filter (is_from (min_of source)) (values_at (field_of source) document)

-- a number, or a date in milliseconds rounded down, as a histogram counts it
abbrev pub counted_number : CompositeIntermediateKey → Option ℤ
counted_number (key.I64 n) = Some n
counted_number (key.U64 n) = Some (pos n)
counted_number (key.DateTime ns) = Some (int_div_euclid ns (pos 1_000_000))
counted_number _ = None

-- the nanoseconds of a date
abbrev pub date_of : CompositeIntermediateKey → Option ℤ
date_of (key.DateTime ns) = Some ns
date_of _ = None

-- what a date source divides time by, and by how much its buckets begin later, or why it can't
abbrev pub division_of : Dates → Result (PrecomputedDateInterval × ℤ) RequestError
division_of s = division s.fixed_interval s.calendar_interval s.offset

-- the start of a date's bucket, the date itself where there is no interval
abbrev pub start_by : Result (PrecomputedDateInterval × ℤ) RequestError → ℤ → ℤ
start_by (Ok (interval, offset)) ns = start_with_offset interval offset ns
start_by (Err error) ns = ns

-- the start of a value's bucket, an unbounded number, where the source divides values and reads
-- this one
abbrev pub start_in : CompositeAggregationSource → CompositeIntermediateKey → Option ℤ
start_in (Terms s) k = None
start_in (Histogram s) k = option_map (fixed_start s.interval) (counted_number k)
start_in (DateHistogram s) k = option_map (start_by (division_of s)) (date_of k)

-- the keys that a source gives for values: a terms source each value, the others the starts of the
-- buckets of those that they read, as numbers and as dates
abbrev pub keys_in
    : CompositeAggregationSource → List CompositeIntermediateKey → List CompositeIntermediateKey
keys_in (Terms s) values = values
keys_in (Histogram s) values = map typed_number (filter_map (start_in (Histogram s)) values)
keys_in (DateHistogram s) values = map key.DateTime (filter_map (start_in (DateHistogram s)) values)

-- the keys that a source reads in a document: those of the values of its field that aren't below
-- its least one
abbrev pub source_values : CompositeAggregationSource → Fields → List CompositeIntermediateKey
source_values source document =
    or_missing (missing_bucket_of source) (keys_in source (values_from source document))
