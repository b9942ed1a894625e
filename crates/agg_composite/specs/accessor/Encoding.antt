-- Encoded keys: which keys they stand for, and how they compare.
use Rattle.std.specs.Prelude.{◌≡◌, ◌⊎◌, ◌+◌, ◌-◌, ◌<◌, ◌^◌, ℕ, zero, suc, List, [], ◌∷◌, ⊤, length}
use Rattle.std.specs.Ordering.{nat_cmp, on, then_cmp}
use Rattle.std.specs.declared.cmp.Ordering.{Ordering}
use Rattle.std.specs.Cmp.Lexicographic.{slice_cmp}
use Rattle.agg_values.specs.KeyOrder.{null_side}
use Rattle.agg_values.specs.Tuple.{KeyTuple}
use Rattle.agg_values.specs.TypedKey.{CompositeIntermediateKey}
use Rattle.agg_values.specs.declared.typed_key.CompositeIntermediateKey.TheVariants.{Null}
use Rattle.agg_values.specs.declared.order.Order.{Order}
use Rattle.agg_values.specs.declared.order.Order.TheVariants.{Asc, Desc}
use Rattle.agg_segment.specs.storage.Columns.{StandsForKey, encoded_key}
use Rattle.agg_request_tree.specs.Source.{Sources, missing_order_of, order_of}
use Rattle.agg_request_tree.specs.declared.source.CompositeAggregationSource as kind
use kind.{CompositeAggregationSource}
use Rattle.agg_composite.specs.accessor.Lanes.{keys_at, lanes}
use Rattle.agg_composite.specs.declared.accessor.accessor.CompositeAccessor.{CompositeAccessor}
use Rattle.agg_composite.specs.declared.accessor.accessor.CompositeSourceAccessors.{
  CompositeSourceAccessors,
}
use Rattle.agg_composite.specs.declared.accessor.encoded.Encoded.{Encoded}
use Rattle.agg_composite.specs.declared.accessor.request_data.CompositeAggReqData.{
  CompositeAggReqData,
}

-- a tuple of encoded keys
abbrev pub EncodedTuple : Type 0
EncodedTuple = List Encoded

-- by lane, and in one lane by number
abbrev pub encoded_order : Encoded → Encoded → Ordering
encoded_order = then_cmp (on (λ e. e.lane) nat_cmp) (on (λ e. e.raw) nat_cmp)

-- the first differing key decides
abbrev pub encoded_tuple_order : EncodedTuple → EncodedTuple → Ordering
encoded_tuple_order = slice_cmp encoded_order

-- a number, or its complement
abbrev pub raw_of : Order → ℕ → ℕ
raw_of Asc number = number
raw_of Desc number = 2 ^ 64 - 1 - number

-- a number of the lane at an index
abbrev pub encoded_at : Order → ℕ → ℕ → Encoded
encoded_at order i number = record { lane = i + 1; raw = raw_of order number }

-- the number of Null beside those of so many lanes: 0, or one more than they are
abbrev pub null_lane : ℕ → ℕ → ℕ
null_lane zero lanes = 0
null_lane (suc side) lanes = lanes + 1

-- Null of a source with such accessors
abbrev pub encoded_null : CompositeAggregationSource → List CompositeAccessor → Encoded
encoded_null source accessors =
    record {
      lane = null_lane (null_side (order_of source) (missing_order_of source))
          (length (lanes source accessors));
      raw = 0;
    }

-- an item is that of a key, where Null and each number of a lane have an item: that of Null, or of
-- a number that stands for the key in its lane
abbrev pub IsItemOf : {A : Type 0} → CompositeAggregationSource → List CompositeAccessor → A
    → (ℕ → ℕ → A) → A → CompositeIntermediateKey → Type 0
IsItemOf source accessors item_of_null item_of_number x k =
    ((x ≡ item_of_null) × (k ≡ Null))
    ⊎ ((i : ℕ) × (number : ℕ) × (i < length (lanes source accessors)) × (number < 2 ^ 64)
    × StandsForKey (keys_at source accessors i) number
    × (x ≡ item_of_number i number)
    × (k ≡ encoded_key (keys_at source accessors i) number))

-- an encoded key stands for a key: Null, or that of a number of a lane
abbrev pub StandsFor : CompositeAggregationSource → List CompositeAccessor → Encoded
    → CompositeIntermediateKey → Type 0
StandsFor source accessors =
    IsItemOf source accessors (encoded_null source accessors) (encoded_at (order_of source))

-- encoded keys stand for a tuple, source by source
abbrev pub StandFor : Sources → List CompositeSourceAccessors → EncodedTuple → KeyTuple → Type 0
StandFor [] [] [] [] = ⊤
StandFor (source ∷ sources) (a ∷ accessors) (e ∷ es) (k ∷ ks) =
    StandsFor source a.accessors e k × StandFor sources accessors es ks
StandFor _ _ _ _ = ⊥

-- an encoded tuple stands for a tuple of the sources of request data
abbrev pub StandsForTuple : CompositeAggReqData → EncodedTuple → KeyTuple → Type 0
StandsForTuple req = StandFor req.req.now.sources req.composite_accessors
