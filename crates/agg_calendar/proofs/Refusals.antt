-- Want of memory is answered only where a refusal holds a text.
use Rattle.std.proofs.Common.{◌≡◌, false, true, ℤ, Result, Ok, Err, IsErr, refl, ap}
use Rattle.agg_values.specs.declared.request_error.DateHistogramParseError as parsing
use parsing.{DateHistogramParseError}
use Rattle.agg_values.specs.declared.request_error.RequestError.{RequestError}
use Rattle.agg_values.specs.declared.request_error.RequestError.TheVariants.{Invalid, OutOfMemory}
use Rattle.agg_values.specs.declared.request_error.RequestError.TheVariants.{Aggregation}
use Rattle.agg_calendar.specs.Interval.{fixed, in_ns, with_offset}
use Rattle.agg_calendar.specs.Refusal.{in_request, HasText, IsAnswer}
use Rattle.agg_calendar.specs.declared.interval.PrecomputedDateInterval.{PrecomputedDateInterval}

pub fixed_has_text : (read : Result ℤ DateHistogramParseError)
    → IsErr (in_request read)
    → HasText (fixed (in_request read))
fixed_has_text (Ok ms) refused = absurd (let h : false ≡ true = refused in cc)
fixed_has_text (Err error) refused = tt

pub offset_has_text : (read : Result ℤ DateHistogramParseError)
    → IsErr (in_request read)
    → HasText (in_ns (in_request read))
offset_has_text (Ok ms) refused = absurd (let h : false ≡ true = refused in cc)
offset_has_text (Err error) refused = tt

-- the refusal of an interval is that of it with an offset
pub interval_answer : (interval : Result PrecomputedDateInterval RequestError)
    (offset : Result ℤ RequestError) (refusal : RequestError)
    → IsAnswer interval (Err refusal)
    → IsAnswer (with_offset interval offset) (Err refusal)
interval_answer (Ok i) offset OutOfMemory is = absurd (let h : false ≡ true = is in cc)
interval_answer (Err e) offset OutOfMemory is = refl
interval_answer interval offset (Invalid fault) is = ap (λ r. with_offset r offset) is
interval_answer interval offset (Aggregation part) is = ap (λ r. with_offset r offset) is

pub interval_text : (interval : Result PrecomputedDateInterval RequestError)
    (offset : Result ℤ RequestError)
    → HasText interval
    → HasText (with_offset interval offset)
interval_text (Ok i) offset has = absurd has
interval_text (Err e) offset has = has

-- where the interval isn't refused, the refusal of the offset is
pub offset_answer : (interval : PrecomputedDateInterval) (offset : Result ℤ RequestError)
    (refusal : RequestError)
    → IsAnswer offset (Err refusal)
    → IsAnswer (with_offset (Ok interval) offset) (Err refusal)
offset_answer interval (Ok o) OutOfMemory is = absurd (let h : false ≡ true = is in cc)
offset_answer interval (Err e) OutOfMemory is = refl
offset_answer interval offset (Invalid fault) is = ap (λ o. with_offset (Ok interval) o) is
offset_answer interval offset (Aggregation part) is = ap (λ o. with_offset (Ok interval) o) is

pub offset_text : (interval : PrecomputedDateInterval) (offset : Result ℤ RequestError)
    → HasText offset
    → HasText (with_offset (Ok interval) offset)
offset_text interval (Ok o) has = absurd has
offset_text interval (Err e) has = has
