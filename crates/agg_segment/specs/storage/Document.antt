-- Documents: values with the names of their fields, and the keys that they mean.
use Rattle.std.specs.Prelude.{◌==◌, ◌<◌, ◌^◌, ℕ, List, [], ◌∷◌, All, filter, flat_map, map, nat_abs}
use Rattle.std.specs.Prelude.{⊤}
use Rattle.std.specs.Map.{values_of}
use Rattle.std.specs.Str.{bytes_eq}
use Rattle.agg_values.specs.Column.{class_rank}
use Rattle.agg_values.specs.TypedKey.{canonical_key}
use Rattle.agg_values.specs.TypedKey.{CompositeIntermediateKey}
use Rattle.agg_values.specs.declared.typed_key.CompositeIntermediateKey.TheVariants as key
use Rattle.agg_segment.specs.declared.storage.document.FieldValue.{FieldValue}
use Rattle.agg_segment.specs.declared.storage.document.FieldValue.TheVariants as value

-- a document, by the keys of each field
abbrev pub Fields : Type 0
Fields = List ℕ → List CompositeIntermediateKey

-- the key of a value as it was given
abbrev pub said_key : FieldValue → CompositeIntermediateKey
said_key (value.Bool b) = key.Bool b
said_key (value.Str text) = key.Str text
said_key (value.I64 n) = key.I64 n
said_key (value.U64 n) = key.U64 n
said_key (value.Ip address) = key.IpAddr address
said_key (value.Date ns) = key.DateTime ns

-- the canonical key of a value
abbrev pub key_of : FieldValue → CompositeIntermediateKey
key_of (value.U64 n) = canonical_key (key.U64 n)
key_of value = said_key value

-- the ranks of the classes, ascending; the first one is Null's
abbrev pub class_ranks : List ℕ
class_ranks = 0 ∷ 1 ∷ 2 ∷ 3 ∷ 4 ∷ 5 ∷ []

-- the keys of one class
abbrev pub of_class : List CompositeIntermediateKey → ℕ → List CompositeIntermediateKey
of_class keys rank = filter (λ key. class_rank key == rank) keys

-- the same keys, by class ascending and in order inside a class
unfoldable pub by_class : List CompositeIntermediateKey → List CompositeIntermediateKey
by_class keys = flat_map (of_class keys) class_ranks

-- the values of a field, in the order in which they were added
abbrev pub values_in : List (List ℕ × FieldValue) → List ℕ → List FieldValue
values_in document field = values_of (filter (λ p. bytes_eq field p.0) document)

-- what a document means
abbrev pub meaning : List (List ℕ × FieldValue) → Fields
meaning document field = by_class (map key_of (values_in document field))

-- a key that is a number or a date is one of 64 bits, with or without a sign
abbrev pub IsOf64Bits : CompositeIntermediateKey → Type 0
IsOf64Bits (key.I64 n) = nat_abs n < 2 ^ 64
IsOf64Bits (key.U64 n) = n < 2 ^ 64
IsOf64Bits (key.DateTime ns) = nat_abs ns < 2 ^ 64
IsOf64Bits _ = ⊤

-- so is each number and date of a document
abbrev pub HasNumbersOf64Bits : Fields → Type 0
HasNumbersOf64Bits document = (field : List ℕ) → All IsOf64Bits (document field)
