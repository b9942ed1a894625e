-- Values by the number of their field and their document, in the order in which they came.
use Rattle.std.specs.Prelude.{◌==◌, ◌&&◌}
use Rattle.std.specs.Prelude.{ℕ, Bool, List, [], Option, map, filter}
use Rattle.std.specs.Option.{option_map_or}
use Rattle.agg_values.specs.Names.{Named, value_of}
use Rattle.agg_values.specs.TypedKey.{CompositeIntermediateKey}
use Rattle.agg_values.specs.declared.typed_key.CompositeIntermediateKey.TheVariants as key
use Rattle.agg_segment.specs.storage.Document.{Fields, key_of}
use Rattle.agg_segment.specs.declared.storage.kept.PushedValue.{PushedValue}
use Rattle.agg_segment.specs.declared.storage.kept.PushedValue.TheVariants as pushed

-- a key of a document, in the field of a number
pub record Placed : Type 0 where
  pub field : ℕ
  pub doc : ℕ
  pub key : CompositeIntermediateKey

-- whether it is in a field of a document
abbrev pub is_at : ℕ → ℕ → Placed → Bool
is_at field doc p = (p.field == field) && (p.doc == doc)

-- the keys of a document in a field, in order
abbrev pub keys_at : List Placed → ℕ → ℕ → List CompositeIntermediateKey
keys_at cells field doc = map (λ p. p.key) (filter (is_at field doc) cells)

-- the number of a field's name
abbrev pub number_of : Named ℕ → List ℕ → Option ℕ
number_of names name = value_of name names

-- the keys of a document in the field of a name
abbrev pub named_keys : Named ℕ → List Placed → ℕ → Fields
named_keys names cells doc name =
    option_map_or (λ field. keys_at cells field doc) (number_of names name) []

-- the key of a value that a document gets
abbrev pub pushed_key : PushedValue → CompositeIntermediateKey
pushed_key (pushed.Owned value) = key_of value
pushed_key (pushed.Text text) = key.Str text.now
