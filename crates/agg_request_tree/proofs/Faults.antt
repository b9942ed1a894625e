-- Faults of sources and composites, and what is sound.
use Rattle.std.proofs.Common.{◌≢◌, ◌<◌, ◌≤ℤ◌, ◌<ℤ◌, ℤ, pos, negsuc, zero, suc}
use Rattle.std.proofs.Common.{[], Option, None, Some, IfNone, IfSome, length, get_or}
use Rattle.std.proofs.Common.{refl, arith}
use Rattle.std.specs.List.{All, Any}
use Rattle.std.proofs.lemmas.Int.{ints}
use Rattle.agg_values.specs.TypedKey.{CompositeIntermediateKey}
use Rattle.agg_values.specs.declared.error.InvalidArgument.TheVariants as argument
use Rattle.agg_values.specs.declared.request_error.RequestError.{RequestError}
use Rattle.agg_values.specs.declared.request_error.RequestError.TheVariants as error
use Rattle.agg_request_tree.specs.Faults.{HasFault, HasInterval, HaveOwnNames}
use Rattle.agg_request_tree.specs.Faults.{IsIntervalFault, IsNullAfter, IsOtherAfter}
use Rattle.agg_request_tree.specs.Faults.{IsSound, IsSoundSource, SourceHasFault, max_sources}
use Rattle.agg_request_tree.specs.Source.{after_of}
use Rattle.agg_request_tree.specs.declared.aggregation.CompositeAggregation.{CompositeAggregation}
use Rattle.agg_request_tree.specs.declared.source.CompositeAggregationSource as kind
use kind.{CompositeAggregationSource}
use kind.TheVariants.{Histogram}
use Rattle.agg_request_tree.specs.declared.source.HistogramCompositeAggregationSource as histogram
use histogram.{HistogramCompositeAggregationSource as Numbers}
use Rattle.agg_request_tree.proofs.Checks.{no_interval_fault}
use Rattle.agg_request_tree.proofs.Lists.{none_of_all, none_of_any}

-- ---- intervals

at_least_one : (n : ℤ) → ¬ (n <ℤ pos 1) → pos 1 ≤ℤ n
at_least_one (pos zero) large = absurd (large (omega (arith, ints)))
at_least_one (pos (suc n)) large = omega (arith, ints)
at_least_one (negsuc n) large = absurd (large (omega (arith, ints)))

-- what a histogram divides values by is at least one
pub HasInterval-large : (s : Numbers) → HasInterval (Histogram s) → pos 1 ≤ℤ s.interval
HasInterval-large s has =
    at_least_one s.interval (λ small. has (error.Invalid argument.BadInterval) (refl, small))

-- ---- sources

-- a fault of its interval is a source's
pub SourceHasFault-interval : (source : CompositeAggregationSource)
    (after : Option CompositeIntermediateKey) (refusal : RequestError)
    → IsIntervalFault source refusal → SourceHasFault source after refusal
SourceHasFault-interval source after (error.Invalid argument.NullAfter) is =
    absurd (no_interval_fault source argument.NullAfter (λ e. cc) (λ e. cc) is)
SourceHasFault-interval source after (error.Invalid argument.AfterType) is =
    absurd (no_interval_fault source argument.AfterType (λ e. cc) (λ e. cc) is)
SourceHasFault-interval source after (error.Invalid argument.NoSource) is = is
SourceHasFault-interval source after (error.Invalid argument.ZeroSize) is = is
SourceHasFault-interval source after (error.Invalid argument.TooManySources) is = is
SourceHasFault-interval source after (error.Invalid argument.DuplicateSource) is = is
SourceHasFault-interval source after (error.Invalid argument.BadInterval) is = is
SourceHasFault-interval source after (error.Invalid argument.IntervalChoice) is = is
SourceHasFault-interval source after (error.Aggregation part) is = is
SourceHasFault-interval source after error.OutOfMemory is = is

-- a source without those faults has none
pub IsSoundSource-parts : (source : CompositeAggregationSource)
    (after : Option CompositeIntermediateKey) → ¬ (IsNullAfter source after)
    → HasInterval source → ¬ (IsOtherAfter source after) → IsSoundSource source after
IsSoundSource-parts source after null has other (error.Invalid argument.NullAfter) is = null is
IsSoundSource-parts source after null has other (error.Invalid argument.AfterType) is = other is
IsSoundSource-parts source after null has other (error.Invalid argument.NoSource) is = has _ is
IsSoundSource-parts source after null has other (error.Invalid argument.ZeroSize) is = has _ is
IsSoundSource-parts source after null has other (error.Invalid argument.TooManySources) is =
    has _ is
IsSoundSource-parts source after null has other (error.Invalid argument.DuplicateSource) is =
    has _ is
IsSoundSource-parts source after null has other (error.Invalid argument.BadInterval) is = has _ is
IsSoundSource-parts source after null has other (error.Invalid argument.IntervalChoice) is =
    has _ is
IsSoundSource-parts source after null has other (error.Aggregation part) is = has _ is
IsSoundSource-parts source after null has other error.OutOfMemory is = has _ is

-- ---- composites

-- a source of a composite has this fault
abbrev pub HasSourceFault : CompositeAggregation → RequestError → CompositeAggregationSource
    → Type 0
HasSourceFault composite refusal source =
    SourceHasFault source (after_of composite.after source) refusal

-- a fault of a source is the composite's
pub HasFault-source : (composite : CompositeAggregation) (refusal : RequestError)
    → Any (HasSourceFault composite refusal) composite.sources → HasFault composite refusal
HasFault-source composite (error.Invalid argument.NoSource) (k, s, within, at, is) =
    absurd (no_interval_fault s argument.NoSource (λ e. cc) (λ e. cc) is)
HasFault-source composite (error.Invalid argument.ZeroSize) (k, s, within, at, is) =
    absurd (no_interval_fault s argument.ZeroSize (λ e. cc) (λ e. cc) is)
HasFault-source composite (error.Invalid argument.TooManySources) (k, s, within, at, is) =
    absurd (no_interval_fault s argument.TooManySources (λ e. cc) (λ e. cc) is)
HasFault-source composite (error.Invalid argument.DuplicateSource) (k, s, within, at, is) =
    absurd (no_interval_fault s argument.DuplicateSource (λ e. cc) (λ e. cc) is)
HasFault-source composite (error.Invalid argument.NullAfter) some = some
HasFault-source composite (error.Invalid argument.AfterType) some = some
HasFault-source composite (error.Invalid argument.BadInterval) some = some
HasFault-source composite (error.Invalid argument.IntervalChoice) some = some
HasFault-source composite (error.Aggregation part) some = some
HasFault-source composite error.OutOfMemory some = some

-- each source of a sound composite is sound
pub IsSound-sources : (composite : CompositeAggregation) → IsSound composite
    → All (λ s. IsSoundSource s (after_of composite.after s)) composite.sources
IsSound-sources composite sound k s within refusal is =
    none_of_any (HasSourceFault composite refusal) composite.sources
    (λ some. sound refusal (HasFault-source composite refusal some)) k s within is

-- each source of a sound composite has what it divides values by
pub IsSound-intervals : (composite : CompositeAggregation) → IsSound composite
    → All HasInterval composite.sources
IsSound-intervals composite sound k s within refusal is =
    let source = get_or composite.sources k s in
    IsSound-sources composite sound k s within refusal
    (SourceHasFault-interval source (after_of composite.after source) refusal is)

-- the sources of a sound composite have names of their own
pub IsSound-names : (composite : CompositeAggregation) → IsSound composite
    → HaveOwnNames composite.sources
IsSound-names composite sound i j s before within same =
    sound (error.Invalid argument.DuplicateSource) (λ own. own i j s before within same)

-- a composite whose sources are sound, as few as may be, and some, and which has room, is sound
pub IsSound-parts : (composite : CompositeAggregation) → composite.sources ≢ []
    → ¬ (max_sources < length composite.sources) → composite.size ≢ 0
    → HaveOwnNames composite.sources
    → All (λ s. IsSoundSource s (after_of composite.after s)) composite.sources
    → IsSound composite
IsSound-parts composite some few room names each = none
  where
    in_none : (refusal : RequestError)
        → ¬ (Any (HasSourceFault composite refusal) composite.sources)
    in_none refusal = none_of_all (HasSourceFault composite refusal) composite.sources
        (λ k s within. each k s within refusal)

    none : IsSound composite
    none (error.Invalid argument.NoSource) is = some is
    none (error.Invalid argument.ZeroSize) is = room is
    none (error.Invalid argument.TooManySources) is = few is
    none (error.Invalid argument.DuplicateSource) is = is names
    none (error.Invalid argument.NullAfter) is = in_none (error.Invalid argument.NullAfter) is
    none (error.Invalid argument.AfterType) is = in_none (error.Invalid argument.AfterType) is
    none (error.Invalid argument.BadInterval) is = in_none (error.Invalid argument.BadInterval) is
    none (error.Invalid argument.IntervalChoice) is =
        in_none (error.Invalid argument.IntervalChoice) is
    none (error.Aggregation part) is = in_none (error.Aggregation part) is
    none error.OutOfMemory is = in_none error.OutOfMemory is

-- what follows of a fact where nothing is answered
pub when-none : {A P Q : Type 0} (o : Option A) → (P → Q) → IfNone o P → IfNone o Q
when-none None follows fact = follows fact
when-none (Some x) follows fact = tt

-- what follows of each answer
pub when-some : {A : Type 0} {P Q : A → Type 0} (o : Option A) → ((x : A) → P x → Q x)
    → IfSome o P → IfSome o Q
when-some None follows fact = tt
when-some (Some x) follows fact = follows x fact
