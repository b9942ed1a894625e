-- Faults of composites: what is found so far, source by source.
use Rattle.std.proofs.Common.{◌≡◌, ◌≢◌, ◌<◌, ◌≤◌, ◌+◌, ℕ, ℤ, pos, ◌*ℤ◌, List, [], ◌∷◌, ◌++◌}
use Rattle.std.proofs.Common.{get_or, length, take, Bool, true, false, cond, bytes_eq}
use Rattle.std.proofs.Common.{Option, None, Some, Result, Ok, Err, IfErr, IsErrAnd}
use Rattle.std.proofs.Common.{◌⊎◌, ⊎_elim, inl, inr, refl, sym, ap, ◌∙◌, subst, arith}
use Rattle.std.specs.List.{All, Any}
use Rattle.std.specs.Ordering.{int_eq}
use Rattle.std.proofs.lemmas.Bool.{false≢true}
use Rattle.std.proofs.lemmas.Slice.Eq.{bytes_eq-Decides}
use Rattle.std.proofs.lemmas.List.{get_or-take, get_or_read, length-take, take_all}
use Rattle.std.proofs.lemmas.List.{take_more}
use Rattle.std.proofs.lemmas.List.Elements.{All-more}
use Rattle.std.proofs.lemmas.List.Quantifiers.{all_pairs_push}
use Rattle.agg_values.specs.declared.error.InvalidArgument.{InvalidArgument}
use Rattle.agg_values.specs.declared.error.InvalidArgument.TheVariants as argument
use Rattle.agg_values.specs.declared.request_error.AggregationError.{AggregationError}
use Rattle.agg_values.specs.declared.request_error.AggregationError.TheVariants as aggregation
use Rattle.agg_values.specs.declared.request_error.DateHistogramParseError as parsing
use parsing.{DateHistogramParseError}
use Rattle.agg_values.specs.declared.request_error.RequestError.{RequestError}
use Rattle.agg_values.specs.declared.request_error.RequestError.TheVariants as error
use Rattle.agg_calendar.specs.Interval.{chosen, chosen_offset, fixed, in_ns, with_offset}
use Rattle.agg_calendar.specs.IntervalText.{read_interval, read_offset}
use Rattle.agg_calendar.specs.Refusal.{in_request, HasText, IsAnswer}
use Rattle.agg_calendar.specs.declared.interval.CalendarInterval.{CalendarInterval}
use Rattle.agg_calendar.specs.declared.interval.PrecomputedDateInterval as interval
use interval.{PrecomputedDateInterval}
use interval.TheVariants.{FixedNanoseconds}
use Rattle.agg_request_tree.specs.Faults.{HaveOwnNames, IsIntervalCause, IsIntervalFault}
use Rattle.agg_request_tree.specs.Source.{Sources, division_of, name_of}
use Rattle.agg_request_tree.specs.declared.source.CompositeAggregationSource as kind
use kind.{CompositeAggregationSource}
use kind.TheVariants.{Terms, Histogram, DateHistogram}
use Rattle.agg_request_tree.specs.declared.source.DateHistogramCompositeAggregationSource as dates
use dates.{DateHistogramCompositeAggregationSource as Dates}

-- ---- sources so far

-- what holds of as many as there are holds of all
pub All-whole : {X : Type 0} (P : X → Type 0) (xs : List X) (i : ℕ) → length xs ≤ i
    → All P (take i xs) → All P xs
All-whole P xs i over all = subst (All P) (take_all i xs over) all

-- what holds of one more
pub All-next : {X : Type 0} (P : X → Type 0) (xs : List X) (i : ℕ) (x : X) → i < length xs
    → x ≡ get_or xs i x → All P (take i xs) → P x → All P (take (i + 1) xs)
All-next P xs i x below at all here = All-more P xs i x below all (subst P at here)

-- ---- names

-- a source whose name differs
pub apart : (found own name : List ℕ) → false ≡ bytes_eq found name → found ≡ own → own ≢ name
apart found own name differs is same =
    false≢true (differs ∙ (bytes_eq-Decides found name).1 (is ∙ same))

-- as many as there are have own names
pub HaveOwnNames-whole : (sources : Sources) (i : ℕ) → length sources ≤ i
    → HaveOwnNames (take i sources) → HaveOwnNames sources
HaveOwnNames-whole sources i over own = subst HaveOwnNames (take_all i sources over) own

-- one more source with a name of its own
pub HaveOwnNames-more : (sources : Sources) (i : ℕ) (source : CompositeAggregationSource)
    → i < length sources → source ≡ get_or sources i source → HaveOwnNames (take i sources)
    → All (λ s. name_of s ≢ name_of source) (take i sources) → HaveOwnNames (take (i + 1) sources)
HaveOwnNames-more sources i source below at own others =
    subst HaveOwnNames (sym (take_more sources i source below ∙ ap (λ s. take i sources ++ s ∷ [])
    (sym at)))
    (all_pairs_push (λ s t. name_of s ≢ name_of t) (take i sources) source own others)

-- a source with the name of one before it
pub HaveOwnNames-not : (sources : Sources) (i : ℕ) (source : CompositeAggregationSource)
    → i < length sources → source ≡ get_or sources i source
    → Any (λ s. name_of s ≡ name_of source) (take i sources) → ¬ (HaveOwnNames sources)
HaveOwnNames-not sources i source below at (k, other, within, found, same) own =
    let before : k < i = omega (arith, length-take i sources) in
    let there : other ≡ get_or sources k other = sym found ∙ get_or-take i sources k other before in
    let here : source ≡ get_or sources i other = get_or_read sources i source below at other in
    own k i other before below (ap name_of (sym there) ∙ same ∙ ap name_of here)

-- ---- intervals

-- a refusal of one of two
fixed_by : (zero : Bool) (interval : PrecomputedDateInterval) (fault : InvalidArgument)
    → cond zero (Err (error.Invalid argument.BadInterval)) (Ok interval)
    ≡ Err (error.Invalid fault) → fault ≡ argument.BadInterval
fixed_by true interval fault is = cc
fixed_by false interval fault is = absurd cc

-- a fixed interval is refused as too small, or for its text
fixed-fault : (read : Result ℤ DateHistogramParseError) (fault : InvalidArgument)
    → fixed (in_request read) ≡ Err (error.Invalid fault) → fault ≡ argument.BadInterval
fixed-fault (Ok ms) fault is =
    fixed_by (int_eq ms (pos 0)) (FixedNanoseconds (ms *ℤ pos 1_000_000)) fault is
fixed-fault (Err part) fault is = absurd cc

-- the intervals of a date source are refused as too small, as not one, or for a text
chosen-fault : (text : Option (List ℕ)) (unit : Option CalendarInterval) (fault : InvalidArgument)
    → chosen text unit ≡ Err (error.Invalid fault)
    → (fault ≡ argument.BadInterval) ⊎ (fault ≡ argument.IntervalChoice)
chosen-fault (Some text) None fault is = inl (fixed-fault (read_interval text) fault is)
chosen-fault None (Some unit) fault is = absurd cc
chosen-fault (Some text) (Some unit) fault is = inr cc
chosen-fault None None fault is = inr cc

-- an offset is refused for its text alone
offset-fault : (text : Option (List ℕ)) (fault : InvalidArgument)
    → chosen_offset text ≡ Err (error.Invalid fault) → ⊥
offset-fault None fault is = absurd cc
offset-fault (Some text) fault is = read-fault (read_offset text) is
  where
    read-fault : (read : Result ℤ DateHistogramParseError)
        → in_ns (in_request read) ≡ Err (error.Invalid fault) → ⊥
    read-fault (Ok ms) is = absurd cc
    read-fault (Err part) is = absurd cc

-- an interval and an offset are refused as one of them is
division-fault : (interval : Result PrecomputedDateInterval RequestError)
    (offset : Result ℤ RequestError) (refusal : RequestError)
    → with_offset interval offset ≡ Err refusal
    → (interval ≡ Err refusal) ⊎ (offset ≡ Err refusal)
division-fault (Ok interval) (Ok offset) refusal is = absurd cc
division-fault (Ok interval) (Err error) refusal is = inr (let same : error ≡ refusal = cc in
    ap Err same)
division-fault (Err error) offset refusal is = inl (let same : error ≡ refusal = cc in ap Err same)

-- no interval is refused for another fault
pub no_interval_fault : (source : CompositeAggregationSource) (fault : InvalidArgument)
    → fault ≢ argument.BadInterval → fault ≢ argument.IntervalChoice
    → ¬ (IsIntervalFault source (error.Invalid fault))
no_interval_fault (Terms s) fault large one is = is
no_interval_fault (Histogram s) fault large one is = let same = is.0 in large cc
no_interval_fault (DateHistogram s) fault large one is =
    ⊎_elim
    (λ interval. ⊎_elim large one
    (chosen-fault s.fixed_interval s.calendar_interval fault interval))
    (offset-fault s.offset fault)
    (division-fault (chosen s.fixed_interval s.calendar_interval) (chosen_offset s.offset)
    (error.Invalid fault) is)

-- a refusal that holds a text is that of a text
text-of : {A : Type 0} (right : Result A RequestError) → HasText right
    → (part : AggregationError) × (right ≡ Err (error.Aggregation part))
text-of (Ok given) has = absurd has
text-of (Err (error.Invalid fault)) has = absurd has
text-of (Err (error.Aggregation (aggregation.DateHistogramParseError part))) has =
    (aggregation.DateHistogramParseError part, refl)
text-of (Err (error.Aggregation (aggregation.MemoryExceeded limit current))) has = absurd has
text-of (Err (error.Aggregation (aggregation.BucketLimitExceeded limit current))) has = absurd has
text-of (Err error.OutOfMemory) has = absurd has

-- the answer of a date source's intervals and offset is the cause of its refusal
pub dates-cause : (s : Dates) (refusal : RequestError) → IsAnswer (division_of s) (Err refusal)
    → (refusal ≡ error.OutOfMemory → HasText (division_of s))
    → IsIntervalCause (DateHistogram s) refusal
dates-cause s (error.Invalid fault) is memory = is
dates-cause s (error.Aggregation part) is memory = is
dates-cause s error.OutOfMemory is memory = text-of (division_of s) (memory refl)

-- ---- requests

-- what holds of a refusal holds where it is passed on
pub passed_on : {A : Type 0} (P : RequestError → Type 0) (refusal : RequestError)
    (result : Result A RequestError) → IsErrAnd result (λ e. e ≡ refusal) → P refusal
    → IfErr result P
passed_on P refusal (Ok x) is told = tt
passed_on P refusal (Err e) is told = subst P (sym is) told
