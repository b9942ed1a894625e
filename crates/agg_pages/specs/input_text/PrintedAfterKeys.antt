-- After keys as results print them.
use Rattle.std.specs.Prelude.{ℕ, ◌^◌, ◌<◌, List, FitsSigned, ⊤}
use Rattle.std.specs.Int.{w64}
use Rattle.agg_values.specs.Tuple.{KeyTuple}
use Rattle.agg_values.specs.TypedKey.{CompositeIntermediateKey}
use Rattle.agg_values.specs.declared.typed_key.CompositeIntermediateKey.TheVariants as key
use key.{I64, U64, DateTime, IpAddr}
use Rattle.agg_request_tree.specs.BySource.{after_map}
use Rattle.agg_request_tree.specs.Source.{Sources}
use Rattle.agg_results.specs.final_results.ResultsText.{object_text, quoted_after_key}

-- a number or a date is within 64 bits, an address within 128
abbrev pub IsWithinType : CompositeIntermediateKey → Type 0
IsWithinType (I64 n) = FitsSigned w64 n
IsWithinType (U64 n) = n < 2 ^ 64
IsWithinType (DateTime ns) = FitsSigned w64 ns
IsWithinType (IpAddr address) = address.0 < 2 ^ 128
IsWithinType _ = ⊤

-- the text of a tuple as an after key
abbrev pub printed_after_key : Sources → KeyTuple → List ℕ
printed_after_key sources tuple = object_text quoted_after_key (after_map sources tuple)
