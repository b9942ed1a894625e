-- Answers that may want memory for the text of an error.
use Rattle.std.specs.Prelude.{◌≡◌, Result, Ok, Err, IsErr, ⊤}
use Rattle.agg_values.specs.declared.request_error.AggregationError.TheVariants as aggregation
use Rattle.agg_values.specs.declared.request_error.DateHistogramParseError as parsing
use parsing.{DateHistogramParseError}
use Rattle.agg_values.specs.declared.request_error.RequestError.{RequestError}
use Rattle.agg_values.specs.declared.request_error.RequestError.TheVariants.{Aggregation}
use Rattle.agg_values.specs.declared.request_error.RequestError.TheVariants.{OutOfMemory}

-- the refusal of a text as the refusal of a request
abbrev pub in_request : {T : Type 0} → Result T DateHistogramParseError → Result T RequestError
in_request (Ok x) = Ok x
in_request (Err error) = Err (Aggregation (aggregation.DateHistogramParseError error))

-- the right answer, or want of memory where a refusal is right
abbrev pub IsAnswer : {T : Type 0} → Result T RequestError → Result T RequestError → Type 0
IsAnswer right (Err OutOfMemory) = IsErr right
IsAnswer right given = right ≡ given

-- a refusal that holds a text
abbrev pub HasText : {T : Type 0} → Result T RequestError → Type 0
HasText (Err (Aggregation (aggregation.DateHistogramParseError _))) = ⊤
HasText _ = ⊥
