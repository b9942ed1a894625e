-- What a request may not ask.
use Rattle.std.specs.Prelude.{◌≡◌, ◌≢◌, ◌<◌, ◌<ℤ◌, ℕ, pos, [], false, Some, length}
use Rattle.std.specs.Prelude.{All, AllPairs, Any, Err, IsSomeAnd, Option, ⊤}
use Rattle.agg_values.specs.TypedKey.{CompositeIntermediateKey}
use Rattle.agg_values.specs.declared.typed_key.CompositeIntermediateKey.TheVariants as key
use key.{Null}
use Rattle.agg_values.specs.declared.request_error.AggregationError.{AggregationError}
use Rattle.agg_values.specs.declared.error.InvalidArgument.TheVariants as argument
use Rattle.agg_values.specs.declared.request_error.RequestError.{RequestError}
use Rattle.agg_values.specs.declared.request_error.RequestError.TheVariants as error
use Rattle.agg_values.specs.Nothing.{NoneIs}
use Rattle.agg_request_tree.specs.Request.{Request, composites_of}
use Rattle.agg_request_tree.specs.Source.{Sources, after_of, division_of, missing_bucket_of}
use Rattle.agg_request_tree.specs.Source.{name_of}
use Rattle.agg_request_tree.specs.declared.aggregation.CompositeAggregation.{CompositeAggregation}
use Rattle.agg_request_tree.specs.declared.source.CompositeAggregationSource as kind
use kind.{CompositeAggregationSource}
use kind.TheVariants.{Terms, Histogram, DateHistogram}

-- the most sources of a composite
abbrev pub max_sources : ℕ
max_sources = 16

-- no two sources have one name
abbrev pub HaveOwnNames : Sources → Type 0
HaveOwnNames sources = AllPairs (λ source other. name_of source ≢ name_of other) sources

-- an after value is Null, and documents without a value have no bucket
abbrev pub IsNullAfter : CompositeAggregationSource → Option CompositeIntermediateKey → Type 0
IsNullAfter source after = (after ≡ Some Null) × (missing_bucket_of source ≡ false)

-- a key is none that the source can give: a histogram gives Null and whole numbers, a date source
-- Null and dates
abbrev pub IsOfOtherType : CompositeAggregationSource → CompositeIntermediateKey → Type 0
IsOfOtherType (Histogram s) (key.Bool b) = ⊤
IsOfOtherType (Histogram s) (key.Str text) = ⊤
IsOfOtherType (Histogram s) (key.IpAddr address) = ⊤
IsOfOtherType (Histogram s) (key.DateTime ns) = ⊤
IsOfOtherType (DateHistogram s) (key.Bool b) = ⊤
IsOfOtherType (DateHistogram s) (key.Str text) = ⊤
IsOfOtherType (DateHistogram s) (key.I64 n) = ⊤
IsOfOtherType (DateHistogram s) (key.U64 n) = ⊤
IsOfOtherType (DateHistogram s) (key.IpAddr address) = ⊤
IsOfOtherType _ _ = ⊥

-- there is an after value, and it is such a key
abbrev pub IsOtherAfter : CompositeAggregationSource → Option CompositeIntermediateKey → Type 0
IsOtherAfter source after = IsSomeAnd after (IsOfOtherType source)

-- a source's interval is refused so: a number below one, or the intervals or the offset of a date
-- source
abbrev pub IsIntervalFault : CompositeAggregationSource → RequestError → Type 0
IsIntervalFault (Terms s) refusal = ⊥
IsIntervalFault (Histogram s) refusal =
    (refusal ≡ error.Invalid argument.BadInterval) × (s.interval <ℤ pos 1)
IsIntervalFault (DateHistogram s) refusal = division_of s ≡ Err refusal

-- a source has what it divides values by, if it divides them
abbrev pub HasInterval : CompositeAggregationSource → Type 0
HasInterval source = NoneIs (IsIntervalFault source)

-- a source that goes on after an after value, or begins where there is none, has this fault
abbrev pub SourceHasFault : CompositeAggregationSource → Option CompositeIntermediateKey
    → RequestError → Type 0
SourceHasFault source after (error.Invalid argument.NullAfter) = IsNullAfter source after
SourceHasFault source after (error.Invalid argument.AfterType) = IsOtherAfter source after
SourceHasFault source after refusal = IsIntervalFault source refusal

-- a source that goes on after an after value, or begins where there is none, has no fault
abbrev pub IsSoundSource : CompositeAggregationSource → Option CompositeIntermediateKey → Type 0
IsSoundSource source after = NoneIs (SourceHasFault source after)

-- a composite has this fault
abbrev pub HasFault : CompositeAggregation → RequestError → Type 0
HasFault composite (error.Invalid argument.NoSource) = composite.sources ≡ []
HasFault composite (error.Invalid argument.ZeroSize) = composite.size ≡ 0
HasFault composite (error.Invalid argument.TooManySources) =
    max_sources < length composite.sources
HasFault composite (error.Invalid argument.DuplicateSource) =
    ¬ (HaveOwnNames composite.sources)
HasFault composite refusal =
    Any (λ source. SourceHasFault source (after_of composite.after source) refusal)
    composite.sources

-- a composite has no fault
abbrev pub IsSound : CompositeAggregation → Type 0
IsSound composite = NoneIs (HasFault composite)

-- a refusal comes of its fault; memory is wanted only for the refusal of a text
abbrev pub IsCauseAmong : (RequestError → Type 0) → RequestError → Type 0
IsCauseAmong HasSuch error.OutOfMemory =
    (part : AggregationError) × HasSuch (error.Aggregation part)
IsCauseAmong HasSuch refusal = HasSuch refusal

-- why a source's interval is refused
abbrev pub IsIntervalCause : CompositeAggregationSource → RequestError → Type 0
IsIntervalCause source = IsCauseAmong (IsIntervalFault source)

-- why a composite is refused
abbrev pub CompositeHasCause : CompositeAggregation → RequestError → Type 0
CompositeHasCause composite = IsCauseAmong (HasFault composite)

-- some composite of a request, at any depth, has this fault
abbrev pub RequestHasFault : {B : Type 0} → Request B → RequestError → Type 0
RequestHasFault request refusal = Any (λ c. HasFault c refusal) (composites_of request)

-- no composite of a request, at any depth, has a fault
abbrev pub IsSoundRequest : {B : Type 0} → Request B → Type 0
IsSoundRequest request = All IsSound (composites_of request)

-- a refusal of a request has its cause in a composite of it, at any depth
abbrev pub HasCause : {B : Type 0} → Request B → RequestError → Type 0
HasCause request refusal = Any (λ c. CompositeHasCause c refusal) (composites_of request)
