-- The starts of buckets, and the numbers that stand for them in lanes.
use Rattle.std.specs.Prelude.{◌≡◌, ◌&&◌, ◌≤ℤ◌, ◌-◌, ◌^◌, ℕ, ℤ, pos, neg_ℤ, Bool, Option, None, Some}
use Rattle.std.specs.Prelude.{⊤, MatchResult, Result, int_le, int_lt, option_map, if◌then◌else◌}
use Rattle.agg_values.specs.TypedKey.{CompositeIntermediateKey}
use Rattle.agg_calendar.specs.Start.{IsUsable, fixed_start, start_with_offset}
use Rattle.agg_calendar.specs.declared.error.StartError.{StartError}
use Rattle.agg_calendar.specs.declared.interval.PrecomputedDateInterval as interval
use interval.{PrecomputedDateInterval}
use interval.TheVariants.{FixedNanoseconds}
use Rattle.agg_segment.specs.storage.Columns.{encoded_key}
use Rattle.agg_segment.specs.declared.storage.keys.ColumnKeys.{ColumnKeys}
use Rattle.agg_request_tree.specs.Ranges.{IsWithin}
use Rattle.agg_request_tree.specs.Source.{counted_number, date_of}
use Rattle.agg_request_tree.specs.declared.source.CompositeAggregationSource as kind
use kind.{CompositeAggregationSource}
use kind.TheVariants.{DateHistogram, Histogram, Terms}
use Rattle.agg_composite.specs.accessor.Places.{moved_up}
use Rattle.agg_composite.specs.declared.accessor.divisor.Divisor.{Divisor}
use Rattle.agg_composite.specs.declared.accessor.divisor.Divisor.TheVariants.{Nothing, Numbers}
use Rattle.agg_composite.specs.declared.accessor.divisor.Divisor.TheVariants.{Time}

-- ---- what values are divided by

-- the start of a value's bucket, by a divisor
abbrev pub divided : Divisor → CompositeIntermediateKey → Option ℤ
divided Nothing k = None
divided (Numbers width) k = option_map (fixed_start width) (counted_number k)
divided (Time interval offset) k = option_map (start_with_offset interval offset) (date_of k)

-- a divisor isn't below one
abbrev pub CanDivide : Divisor → Type 0
CanDivide Nothing = ⊤
CanDivide (Numbers width) = pos 1 ≤ℤ width
CanDivide (Time interval offset) = IsUsable interval

-- numbers by a width, nothing by one below one
abbrev pub by_numbers : ℤ → Divisor
by_numbers width = if int_lt width (pos 1) then Nothing else Numbers width

-- time by an interval and an offset, nothing by an interval below one
abbrev pub by_time : PrecomputedDateInterval → ℤ → Divisor
by_time (FixedNanoseconds ns) offset =
    if int_lt ns (pos 1) then Nothing else Time (FixedNanoseconds ns) offset
by_time interval offset = Time interval offset

-- what a source divides values by, where these are the interval and the offset of its dates
abbrev pub divisor_of : CompositeAggregationSource → PrecomputedDateInterval → ℤ → Divisor
divisor_of (Terms s) interval offset = Nothing
divisor_of (Histogram s) interval offset = by_numbers s.interval
divisor_of (DateHistogram s) interval offset = by_time interval offset

-- ---- numbers of lanes

-- whether a start lies within i64
abbrev pub is_within : ℤ → Bool
is_within start = int_le (neg_ℤ (pos (2 ^ 63))) start && int_lt start (pos (2 ^ 63))

-- the number of a lane for a start, moved up by 2^63; 0 where there is none within i64
abbrev pub start_number : Option ℤ → ℕ
start_number None = 0
start_number (Some start) = if is_within start then moved_up start else 0

-- the number of a lane for a number of a column: itself where nothing divides it
abbrev pub lane_number : Divisor → ColumnKeys → ℕ → ℕ
lane_number Nothing keys number = number
lane_number divisor keys number = start_number (divided divisor (encoded_key keys number))

-- a start, if there is one, is given exactly where it lies within i64
abbrev pub GivesStartOf : Option ℤ → Result (Option ℤ) StartError → Type 0
GivesStartOf start result =
    MatchResult result (λ given. (given ≡ start) × IsWithin start) (λ error. ¬ (IsWithin start))

-- a number that a histogram counts, of an i64, a u64 or the milliseconds of a date
abbrev pub IsCountable : ℤ → Type 0
IsCountable n = (neg_ℤ (pos (2 ^ 63)) ≤ℤ n) × (n ≤ℤ pos (2 ^ 64 - 1))
