-- What was taken from the tokens of a line, and what came into the open document by it.
use Rattle.std.specs.Prelude.{◌≡◌, ◌==◌, ◌<◌, ◌++◌, ◌∷◌, ℕ, List, None, Some, length, false}
use Rattle.std.specs.List.{IsDistinct}
use Rattle.std.specs.Str.{bytes_eq}
use Rattle.json.specs.Token.{Token}
use Rattle.json.specs.Json.{items, members, value}
use Rattle.serde_json.specs.Data.{Data, Items, Members, Num, item, no_items, no_members}
use Rattle.serde_json.specs.Data.{object, unsigned, negative}
use Rattle.serde_json.specs.Find.{as_array}
use Rattle.serde_json.specs.Read.{converted, of_items, of_json, of_members}
use Rattle.agg_values.specs.TypedKey.{CompositeIntermediateKey}
use Rattle.agg_segment.specs.storage.Document.{by_class}
use Rattle.agg_segment.specs.Segment.{Gathered, IsNameOf, open_document}
use Rattle.agg_request.specs.json_values.Json.{alone}
use Rattle.agg_pages.specs.declared.document_json.tokens.number.WholeNumber.{WholeNumber}
use Rattle.agg_pages.specs.declared.document_json.tokens.number.WholeNumber.TheVariants.{
  Unsigned,
  Negative,
}
use Rattle.agg_pages.specs.document_json.DocumentLine.{HasKey, HaveKeys, IsDocument, field_values}
use Rattle.agg_pages.specs.document_json.DocumentLine.{values_among}

-- a whole number as that of a JSON value
abbrev pub num_of : WholeNumber → Num
num_of (Unsigned n) = unsigned n
num_of (Negative z) = negative z

-- no number is there twice
abbrev pub AreDistinct : List ℕ → Type 0
AreDistinct numbers = IsDistinct (λ a b. a == b) numbers

-- an object whose one member has this name and this token as its value has this key
pub record IsOnlyMember (name : List ℕ) (token : Token) (key : CompositeIntermediateKey) : Type 0
  where
    pub seen : Data
    pub has : HasKey (alone name seen) key
    pub read : (depth : ℕ) (rest : List Token)
        → converted of_json (value depth (token ∷ rest)) ≡ Some (seen, rest)

-- a value with this key was taken
pub record TakesValue (old : List Token) (key : CompositeIntermediateKey) (new : List Token)
    : Type 0 where
  pub seen : Data
  pub has : HasKey seen key
  pub read : (depth : ℕ) → 0 < depth → converted of_json (value depth old) ≡ Some (seen, new)
  pub shorter : length new < length old

-- a field of the open document has these values after those that it had
pub record GainsKeys (field : ℕ) (written : List Data) (old new : Gathered) : Type 0 where
  pub keys : List CompositeIntermediateKey
  pub has : HaveKeys written keys
  pub here : (name : List ℕ) (before : List CompositeIntermediateKey) → IsNameOf old field name
      → open_document old name ≡ by_class before
      → open_document new name ≡ by_class (before ++ keys)
  pub elsewhere : (name other : List ℕ) → IsNameOf old field name → bytes_eq name other ≡ false
      → open_document new other ≡ open_document old other
  pub names : new.names ≡ old.names

-- an item was taken into a field: a value, or `null`
pub record TakesItem (field : ℕ) (old new : List Token) (before after : Gathered) : Type 0 where
  pub seen : Data
  pub single : as_array seen ≡ None
  pub gains : GainsKeys field (values_among (item seen no_items)) before after
  pub read : (depth : ℕ) → 0 < depth → converted of_json (value depth old) ≡ Some (seen, new)
  pub shorter : length new < length old

-- the items of an array were taken into a field, up to its bracket
pub record TakesItems (field : ℕ) (old new : List Token) (before after : Gathered) : Type 0 where
  pub seen : Items
  pub gains : GainsKeys field (values_among seen) before after
  pub read : (depth : ℕ) → 0 < depth
      → converted of_items (items (value depth) (length old) old) ≡ Some (seen, new)
  pub shorter : length new < length old

-- the values of a field were taken into it
pub record TakesValues (field : ℕ) (old new : List Token) (before after : Gathered) : Type 0 where
  pub seen : Data
  pub gains : GainsKeys field (field_values seen) before after
  pub read : (depth : ℕ) → 1 < depth → converted of_json (value depth old) ≡ Some (seen, new)
  pub shorter : length new < length old

-- the members of an object were taken, up to its brace: where their fields are distinct, the open
-- document is the object's
pub record TakesMembers (old new : List Token) (fields : List ℕ) (after : Gathered) : Type 0 where
  pub seen : Members
  pub read : (depth : ℕ) → 1 < depth
      → converted (λ ms. of_members ms no_members) (members (value depth) (length old) old)
      ≡ Some (seen, new)
  pub stands : AreDistinct fields → IsDocument (object seen) (open_document after)
