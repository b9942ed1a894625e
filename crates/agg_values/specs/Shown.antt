-- Keys as they are shown.
use Rattle.std.specs.Prelude.{pos, int_div}
use Rattle.agg_values.specs.TypedKey.{CompositeIntermediateKey}
use Rattle.agg_values.specs.TypedKey.key as key
use Rattle.agg_values.specs.declared.composite_key.CompositeKey.{CompositeKey}
use Rattle.agg_values.specs.declared.composite_key.CompositeKey.TheVariants as shown
use Rattle.agg_values.specs.Address.{shown_address}

-- a date is shown in milliseconds, toward zero, a mapped address as its IPv4 text, any other as its
-- IPv6 text, and the rest as it is
abbrev pub shown_key : CompositeIntermediateKey → CompositeKey
shown_key (key.Bool b) = shown.Bool b
shown_key (key.Str text) = shown.Str text
shown_key (key.I64 n) = shown.I64 n
shown_key (key.U64 n) = shown.U64 n
shown_key (key.DateTime ns) = shown.I64 (int_div ns (pos 1000000))
shown_key (key.IpAddr address) = shown.Str (shown_address address.0)
shown_key key.Null = shown.Null
