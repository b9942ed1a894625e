-- Keys of buckets.
use Rattle.std.specs.Prelude.{ℕ, List, codes, decimal, if◌then◌else◌}
use Rattle.std.specs.Fmt.{signed_decimal}
use Rattle.agg_values.specs.Address.{address_text, shown_address}
use Rattle.agg_values.specs.declared.key.Key.{Key}
use Rattle.agg_values.specs.declared.key.Key.TheVariants as bucket
use Rattle.agg_values.specs.declared.key.IntermediateKey.{IntermediateKey}
use Rattle.agg_values.specs.declared.key.IntermediateKey.TheVariants as intermediate

-- the key without its type
abbrev pub bucket_key : IntermediateKey → Key
bucket_key (intermediate.IpAddr address) = bucket.Str (shown_address address.0)
bucket_key (intermediate.Bool b) = bucket.U64 (if b then 1 else 0)
bucket_key (intermediate.Str text) = bucket.Str text
bucket_key (intermediate.I64 n) = bucket.I64 n
bucket_key (intermediate.U64 n) = bucket.U64 n

-- the same key, among those that keep their types
abbrev pub intermediate_key : Key → IntermediateKey
intermediate_key (bucket.Str text) = intermediate.Str text
intermediate_key (bucket.I64 n) = intermediate.I64 n
intermediate_key (bucket.U64 n) = intermediate.U64 n

-- what is displayed of a key that keeps its type
abbrev pub intermediate_key_text : IntermediateKey → List ℕ
intermediate_key_text (intermediate.IpAddr address) = address_text address.0
intermediate_key_text (intermediate.Bool b) = if b then codes "true" else codes "false"
intermediate_key_text (intermediate.Str text) = text
intermediate_key_text (intermediate.I64 n) = signed_decimal n
intermediate_key_text (intermediate.U64 n) = decimal n

-- what is displayed of a key
abbrev pub bucket_key_text : Key → List ℕ
bucket_key_text key = intermediate_key_text (intermediate_key key)
