-- Which documents a segment may hold.
use Rattle.std.specs.Prelude.{ℕ, List, map, flat_map, pos, int_lt, if◌then◌else◌}
use Rattle.std.specs.List.{Contains}
use Rattle.agg_values.specs.TypedKey.{CompositeIntermediateKey}
use Rattle.agg_values.specs.declared.typed_key.CompositeIntermediateKey.TheVariants as key
use Rattle.agg_segment.specs.storage.Document.{Fields}
use Rattle.agg_segment.specs.declared.storage.sign.Sign.{Sign}
use Rattle.agg_segment.specs.declared.storage.sign.Sign.TheVariants.{Small, Negative, Large}

-- how many documents a segment may hold
abbrev pub max_documents : ℕ
max_documents = 16_777_216

-- whether a number is below zero, or above those of an i64
abbrev pub sign_of : CompositeIntermediateKey → Sign
sign_of (key.I64 n) = if int_lt n (pos 0) then Negative else Small
sign_of (key.U64 n) = Large
sign_of _ = Small

-- some document has a number of a sign in a field
abbrev pub HasSign : List Fields → List ℕ → Sign → Type 0
HasSign documents field sign =
    Contains (map sign_of (flat_map (λ document. document field) documents)) sign

-- some field has a number below zero and one above those of an i64
abbrev pub IsMixed : List Fields → Type 0
IsMixed documents =
    (field : List ℕ) × HasSign documents field Negative × HasSign documents field Large
