-- The tuples that encoded tuples stand for.
use Rattle.std.specs.Prelude.{◌==◌, ◌||◌, ◌-◌, ℕ, List, [], ◌∷◌, Bool, length, nat_lt}
use Rattle.std.specs.Prelude.{if◌then◌else◌}
use Rattle.agg_values.specs.Tuple.{KeyTuple}
use Rattle.agg_values.specs.TypedKey.{CompositeIntermediateKey}
use Rattle.agg_values.specs.declared.typed_key.CompositeIntermediateKey.TheVariants.{Null}
use Rattle.agg_segment.specs.storage.Columns.{encoded_key}
use Rattle.agg_request_tree.specs.Source.{Sources, order_of}
use Rattle.agg_request_tree.specs.declared.source.CompositeAggregationSource as kind
use kind.{CompositeAggregationSource}
use Rattle.agg_composite.specs.accessor.Lanes.{keys_at, lanes}
use Rattle.agg_composite.specs.accessor.Encoding.{EncodedTuple, StandsForTuple, raw_of}
use Rattle.agg_composite.specs.declared.accessor.accessor.CompositeAccessor.{CompositeAccessor}
use Rattle.agg_composite.specs.declared.accessor.accessor.CompositeSourceAccessors.{
  CompositeSourceAccessors,
}
use Rattle.agg_composite.specs.declared.accessor.encoded.Encoded.{Encoded}
use Rattle.agg_composite.specs.declared.accessor.request_data.CompositeAggReqData.{
  CompositeAggReqData,
}

-- whether a number is that of none of so many lanes, which are numbered from 1 on
abbrev pub is_outside : ℕ → ℕ → Bool
is_outside lane lanes = (lane == 0) || nat_lt lanes lane

-- the key that an encoded key stands for: Null outside the lanes, else that of a number
abbrev pub decoded_key : CompositeAggregationSource → List CompositeAccessor → Encoded
    → CompositeIntermediateKey
decoded_key source accessors e =
    if is_outside e.lane (length (lanes source accessors)) then Null
    else encoded_key (keys_at source accessors (e.lane - 1)) (raw_of (order_of source) e.raw)

-- the keys that encoded keys stand for, source by source
abbrev pub decoded_keys : Sources → List CompositeSourceAccessors → EncodedTuple → KeyTuple
decoded_keys (source ∷ sources) (a ∷ accessors) (e ∷ es) =
    decoded_key source a.accessors e ∷ decoded_keys sources accessors es
decoded_keys _ _ _ = []

-- the tuple that an encoded tuple stands for in request data
abbrev pub decoded : CompositeAggReqData → EncodedTuple → KeyTuple
decoded req t = decoded_keys req.req.now.sources req.composite_accessors t

-- an encoded tuple stands for some tuple
abbrev pub IsEncoded : CompositeAggReqData → EncodedTuple → Type 0
IsEncoded req t = (tuple : KeyTuple) × StandsForTuple req t tuple
