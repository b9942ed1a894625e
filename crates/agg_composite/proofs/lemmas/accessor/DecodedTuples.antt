-- Encoded tuples are decoded to the tuples that they stand for.
use Rattle.std.proofs.Common.{◌≡◌, ◌+◌, ◌-◌, ◌<◌, ◌^◌, ℕ, zero, suc, inl, inr}
use Rattle.std.proofs.Common.{List, [], ◌∷◌, ◌++◌, true, false, length, take, get_or}
use Rattle.std.proofs.Common.{refl, sym, ap, ◌∙◌, subst, arith}
use Rattle.std.proofs.lemmas.Bool.Decides.{nat_tests}
use Rattle.std.specs.Bool.{if◌then◌else◌}
use Rattle.agg_values.specs.KeyOrder.{null_side}
use Rattle.agg_values.specs.Tuple.{KeyTuple}
use Rattle.agg_values.specs.TypedKey.{CompositeIntermediateKey}
use Rattle.agg_values.specs.declared.order.Order.{Order}
use Rattle.agg_values.specs.declared.order.Order.TheVariants.{Asc, Desc}
use Rattle.agg_values.specs.declared.typed_key.CompositeIntermediateKey.TheVariants.{Null}
use Rattle.agg_segment.specs.storage.Columns.{StandsForKey, encoded_key}
use Rattle.agg_request_tree.specs.Source.{Sources, missing_order_of, order_of}
use Rattle.agg_request_tree.specs.declared.source.CompositeAggregationSource as kind
use kind.{CompositeAggregationSource}
use Rattle.agg_composite.specs.accessor.Decoded.{decoded, decoded_key, decoded_keys, is_outside}
use Rattle.agg_composite.specs.accessor.Encoding.{EncodedTuple, StandFor, StandsFor}
use Rattle.agg_composite.specs.accessor.Encoding.{encoded_null, null_lane, raw_of}
use Rattle.agg_composite.specs.accessor.Lanes.{keys_at, lanes}
use Rattle.agg_composite.specs.accessor.Encoding.{StandsForTuple}
use Rattle.agg_composite.specs.declared.accessor.accessor.CompositeAccessor.{CompositeAccessor}
use Rattle.agg_composite.specs.declared.accessor.accessor.CompositeSourceAccessors.{
  CompositeSourceAccessors,
}
use Rattle.agg_composite.specs.declared.accessor.encoded.Encoded.{Encoded}
use Rattle.agg_composite.specs.declared.accessor.request_data.CompositeAggReqData.{
  CompositeAggReqData,
}

-- ---- one key

-- the complement of the complement
pub raw-twice : (order : Order) (number : ℕ) → number < 2 ^ 64
    → raw_of order (raw_of order number) ≡ number
raw-twice Asc number fits = refl
raw-twice Desc number fits = omega arith

-- Null is outside the lanes
null-outside : (side accessors : ℕ) → is_outside (null_lane side accessors) accessors ≡ true
null-outside zero accessors = refl
null-outside (suc side) accessors = grind (arith, nat_tests)

-- a number of a lane is inside
pub number-inside : (i accessors : ℕ) → i < accessors → is_outside (i + 1) accessors ≡ false
number-inside i accessors l = grind (arith, nat_tests)

-- an encoded key is decoded to what it stands for
pub decoded_key-is : (source : CompositeAggregationSource) (accessors : List CompositeAccessor)
    (e : Encoded) (k : CompositeIntermediateKey) → StandsFor source accessors e k
    → decoded_key source accessors e ≡ k
decoded_key-is source accessors e k (inl p) =
    ap (decoded_key source accessors) p.0
    ∙ (λ x. if null-outside (null_side (order_of source) (missing_order_of source))
    (length (lanes source accessors)) x then Null
    else encoded_key (keys_at source accessors ((encoded_null source accessors).lane - 1))
    (raw_of (order_of source) 0))
    ∙ sym p.1
decoded_key-is source accessors e k (inr (i, n, l, fits, stands, e_is, k_is)) =
    let index : i + 1 - 1 ≡ i = omega arith in
    ap (decoded_key source accessors) e_is
    ∙ (λ x. if number-inside i (length (lanes source accessors)) l x then Null
    else encoded_key (keys_at source accessors (index x)) (raw-twice (order_of source) n fits x))
    ∙ sym k_is

-- the number of an encoded key that isn't outside stands for a key
pub number-stands : (source : CompositeAggregationSource) (accessors : List CompositeAccessor)
    (e : Encoded) (k : CompositeIntermediateKey) → StandsFor source accessors e k
    → is_outside e.lane (length (lanes source accessors)) ≡ false
    → StandsForKey (keys_at source accessors (e.lane - 1)) (raw_of (order_of source) e.raw)
number-stands source accessors e k (inl p) inside =
    let outside = ap (λ f. is_outside f.lane (length (lanes source accessors))) p.0
    ∙ null-outside (null_side (order_of source) (missing_order_of source))
    (length (lanes source accessors)) in
    absurd (cc (inside, outside))
number-stands source accessors e k (inr (i, n, l, fits, stands, e_is, k_is)) inside =
    let index : i + 1 - 1 ≡ i = omega arith in
    subst (λ f. StandsForKey (keys_at source accessors (f.lane - 1))
    (raw_of (order_of source) f.raw))
    (sym e_is)
    (subst (λ j. StandsForKey (keys_at source accessors j)
    (raw_of (order_of source) (raw_of (order_of source) n))) (sym index)
    (subst (StandsForKey (keys_at source accessors i))
    (sym (raw-twice (order_of source) n fits)) stands))

-- ---- tuples

-- encoded keys are decoded to what they stand for, source by source
decoded_keys-are : (sources : Sources) (accessors : List CompositeSourceAccessors)
    (es : EncodedTuple) (ks : KeyTuple) → StandFor sources accessors es ks
    → decoded_keys sources accessors es ≡ ks
decoded_keys-are [] [] [] [] stand = refl
decoded_keys-are [] [] [] (k ∷ ks) stand = absurd stand
decoded_keys-are [] [] (e ∷ es) ks stand = absurd stand
decoded_keys-are [] (a ∷ accessors) es ks stand = absurd stand
decoded_keys-are (source ∷ sources) [] es ks stand = absurd stand
decoded_keys-are (source ∷ sources) (a ∷ accessors) [] ks stand = absurd stand
decoded_keys-are (source ∷ sources) (a ∷ accessors) (e ∷ es) [] stand = absurd stand
decoded_keys-are (source ∷ sources) (a ∷ accessors) (e ∷ es) (k ∷ ks) stand =
    let first = decoded_key-is source a.accessors e k stand.0 in
    let rest = decoded_keys-are sources accessors es ks stand.1 in
    λ x. first x ∷ rest x

-- an encoded tuple is decoded to the tuple that it stands for
pub decoded-is : (req : CompositeAggReqData) (t : EncodedTuple) (tuple : KeyTuple)
    → StandsForTuple req t tuple → decoded req t ≡ tuple
decoded-is req t tuple stands =
    decoded_keys-are req.req.now.sources req.composite_accessors t tuple stands

-- there are as many sources and accessors as encoded keys
pub as_many : (sources : Sources) (accessors : List CompositeSourceAccessors)
    (es : EncodedTuple) (ks : KeyTuple) → StandFor sources accessors es ks
    → (length sources ≡ length es) × (length accessors ≡ length es)
as_many [] [] [] [] stand = (refl, refl)
as_many [] [] [] (k ∷ ks) stand = absurd stand
as_many [] [] (e ∷ es) ks stand = absurd stand
as_many [] (a ∷ accessors) es ks stand = absurd stand
as_many (source ∷ sources) [] es ks stand = absurd stand
as_many (source ∷ sources) (a ∷ accessors) [] ks stand = absurd stand
as_many (source ∷ sources) (a ∷ accessors) (e ∷ es) [] stand = absurd stand
as_many (source ∷ sources) (a ∷ accessors) (e ∷ es) (k ∷ ks) stand =
    let rest = as_many sources accessors es ks stand.1 in (omega arith, omega arith)

-- the key at an index stands for some key
pub stands-at : (sources : Sources) (accessors : List CompositeSourceAccessors)
    (es : EncodedTuple) (ks : KeyTuple) → StandFor sources accessors es ks
    → (i : ℕ) (source : CompositeAggregationSource) (a : CompositeSourceAccessors) (e : Encoded)
    → i < length es
    → (k : CompositeIntermediateKey)
    × StandsFor (get_or sources i source) (get_or accessors i a).accessors (get_or es i e) k
stands-at [] [] [] [] stand i source a e l = absurd (omega arith)
stands-at [] [] [] (k ∷ ks) stand i source a e l = absurd stand
stands-at [] [] (f ∷ es) ks stand i source a e l = absurd stand
stands-at [] (b ∷ accessors) es ks stand i source a e l = absurd stand
stands-at (s ∷ sources) [] es ks stand i source a e l = absurd stand
stands-at (s ∷ sources) (b ∷ accessors) [] ks stand i source a e l = absurd stand
stands-at (s ∷ sources) (b ∷ accessors) (f ∷ es) [] stand i source a e l = absurd stand
stands-at (s ∷ sources) (b ∷ accessors) (f ∷ es) (k ∷ ks) stand zero source a e l = (k, stand.0)
stands-at (s ∷ sources) (b ∷ accessors) (f ∷ es) (k ∷ ks) stand (suc i) source a e l =
    stands-at sources accessors es ks stand.1 i source a e (omega arith)

-- one key more is decoded
pub decoded-more : (sources : Sources) (accessors : List CompositeSourceAccessors)
    (es : EncodedTuple) (i : ℕ) (source : CompositeAggregationSource)
    (a : CompositeSourceAccessors) (e : Encoded)
    → i < length es → length sources ≡ length es → length accessors ≡ length es
    → decoded_keys sources accessors (take (i + 1) es)
    ≡ decoded_keys sources accessors (take i es)
    ++ decoded_key (get_or sources i source) (get_or accessors i a).accessors (get_or es i e) ∷ []
decoded-more sources accessors [] i source a e l m n = absurd (omega arith)
decoded-more [] accessors (f ∷ es) i source a e l m n = absurd (omega arith)
decoded-more (s ∷ sources) [] (f ∷ es) i source a e l m n = absurd (omega arith)
decoded-more (s ∷ sources) (b ∷ accessors) (f ∷ es) zero source a e l m n =
    decoded-one sources accessors es
  where
    decoded-one : (sources : Sources) (accessors : List CompositeSourceAccessors)
        (es : EncodedTuple)
        → decoded_key s b.accessors f ∷ decoded_keys sources accessors []
        ≡ decoded_key s b.accessors f ∷ []
    decoded-one [] accessors es = refl
    decoded-one (t ∷ sources) [] es = refl
    decoded-one (t ∷ sources) (c ∷ accessors) es = refl
decoded-more (s ∷ sources) (b ∷ accessors) (f ∷ es) (suc i) source a e l m n =
    let more : suc i + 1 ≡ suc (i + 1) = omega arith in
    ap (λ k. decoded_keys (s ∷ sources) (b ∷ accessors) (take k (f ∷ es))) more
    ∙ ap (λ (ks : KeyTuple). decoded_key s b.accessors f ∷ ks)
    (decoded-more sources accessors es i source a e (omega arith) (omega arith) (omega arith))

-- no keys are decoded at first
pub decoded-none : (sources : Sources) (accessors : List CompositeSourceAccessors)
    → decoded_keys sources accessors [] ≡ []
decoded-none [] accessors = refl
decoded-none (s ∷ sources) [] = refl
decoded-none (s ∷ sources) (b ∷ accessors) = refl
