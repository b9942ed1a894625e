-- What a date source divides time by, from the two intervals of a request.
use Rattle.std.specs.Prelude.{ℕ, ℤ, pos, ◌*ℤ◌, ◌≤ℤ◌, ⊤, List, Option, Some, None, Result, Ok, Err}
use Rattle.std.specs.Prelude.{if◌then◌else◌}
use Rattle.std.specs.Ordering.{int_eq}
use Rattle.agg_values.specs.declared.error.InvalidArgument.TheVariants as argument
use Rattle.agg_values.specs.declared.request_error.RequestError.{RequestError}
use Rattle.agg_values.specs.declared.request_error.RequestError.TheVariants as request
use Rattle.agg_calendar.specs.IntervalText.{read_interval, read_offset}
use Rattle.agg_calendar.specs.Refusal.{in_request}
use Rattle.agg_calendar.specs.declared.interval.CalendarInterval.{CalendarInterval}
use Rattle.agg_calendar.specs.declared.interval.PrecomputedDateInterval as interval
use interval.{PrecomputedDateInterval}
use interval.TheVariants.{FixedNanoseconds, Calendar}

-- a fixed interval of that many milliseconds, which is at least one
abbrev pub fixed : Result ℤ RequestError → Result PrecomputedDateInterval RequestError
fixed (Ok ms) =
    if int_eq ms (pos 0)
    then Err (request.Invalid argument.BadInterval)
    else Ok (FixedNanoseconds (ms *ℤ pos 1_000_000))
fixed (Err error) = Err error

-- the one interval that is set, or the first refusal
abbrev pub chosen :
    Option (List ℕ) → Option CalendarInterval → Result PrecomputedDateInterval RequestError
chosen (Some text) None = fixed (in_request (read_interval text))
chosen None (Some interval) = Ok (Calendar interval)
chosen _ _ = Err (request.Invalid argument.IntervalChoice)

-- milliseconds in nanoseconds
abbrev pub in_ns : Result ℤ RequestError → Result ℤ RequestError
in_ns (Ok ms) = Ok (ms *ℤ pos 1_000_000)
in_ns (Err error) = Err error

-- by how many nanoseconds buckets begin later: those of an offset text, none where there is none
abbrev pub chosen_offset : Option (List ℕ) → Result ℤ RequestError
chosen_offset None = Ok (pos 0)
chosen_offset (Some text) = in_ns (in_request (read_offset text))

-- an interval and an offset, or the first refusal
abbrev pub with_offset : Result PrecomputedDateInterval RequestError → Result ℤ RequestError
    → Result (PrecomputedDateInterval × ℤ) RequestError
with_offset (Ok interval) (Ok offset) = Ok (interval, offset)
with_offset (Ok interval) (Err error) = Err error
with_offset (Err error) offset = Err error

-- what a date source divides time by, and by how much its buckets begin later
abbrev pub division : Option (List ℕ) → Option CalendarInterval → Option (List ℕ)
    → Result (PrecomputedDateInterval × ℤ) RequestError
division fixed_interval calendar_interval offset =
    with_offset (chosen fixed_interval calendar_interval) (chosen_offset offset)

-- a fixed interval is at least a millisecond
abbrev pub IsAtLeastOneMillisecond : PrecomputedDateInterval → Type 0
IsAtLeastOneMillisecond (FixedNanoseconds interval) = pos 1_000_000 ≤ℤ interval
IsAtLeastOneMillisecond _ = ⊤
