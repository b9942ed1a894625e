-- What is taken from the tokens of an object into the open document.
use Rattle.std.specs.Prelude.{◌≡◌, ◌≢◌, ◌<◌, ◌-◌, ◌∷◌, ℕ, List, Some, ⊤, false}
use Rattle.std.specs.Prelude.{length, option_map, slice_index_or}
use Rattle.std.specs.List.{All}
use Rattle.std.specs.Str.{bytes_eq}
use Rattle.json.specs.Json.{Items, Json, Members, document, items, max_depth, members, object}
use Rattle.json.specs.Json.{value}
use Rattle.json.specs.Token.{Token}
use Rattle.peslumok_texts.specs.declared.fields.field_type.FieldType.{FieldType}
use Rattle.agg_segment.specs.Segment.{Gathered}
use Rattle.peslumok_records.specs.held.Asked.{path_of}
use Rattle.peslumok_records.specs.held.Values.{Gains, named_values, values_of_fields}
use Rattle.peslumok_records.specs.declared.held.asked.AskedField.{AskedField}
use Rattle.peslumok_records.specs.objects.Objects.{field_values, item_values, member_values}
use Rattle.peslumok_records.specs.objects.Objects.{single_values}
use Rattle.peslumok_records.specs.declared.objects.tokens.Place.{Place}
use Rattle.peslumok_records.specs.declared.objects.tokens.Place.TheVariants as place

-- ---- which field a member is of

-- a member of this name is none of the field: not by its whole name, nor first on its path
pub record IsOther (name : List ℕ) (field : AskedField) : Type 0 where
  pub whole : bytes_eq name field.name ≡ false
  pub first : List ℕ
  pub rest : List (List ℕ)
  pub path : path_of field.name ≡ first ∷ rest
  pub begins : bytes_eq name first ≡ false

-- a member of this name is of the one field at a place, by its whole name
pub record IsOnlyOf (asked : List AskedField) (name : List ℕ) (at : ℕ) : Type 0 where
  pub within : at < length asked
  pub named : (d : AskedField) → (slice_index_or asked at d).name ≡ name
  pub others : (i : ℕ) (d : AskedField) → i < length asked → i ≢ at
      → IsOther name (slice_index_or asked i d)

-- the place of a member of this name among the asked fields, unless it is unclear
abbrev pub IsPlaceOf : List AskedField → List ℕ → Place → Type 0
IsPlaceOf asked name (place.Field at) = IsOnlyOf asked name at
IsPlaceOf asked name place.Other = All (IsOther name) asked
IsPlaceOf asked name place.Unclear = ⊤

-- ---- what is taken

-- a token is a whole value, and no array
pub record IsScalar (token : Token) (seen : Json) : Type 0 where
  pub single : (of : FieldType) → member_values of seen ≡ single_values of seen
  pub read : (depth : ℕ) (rest : List Token) → value depth (token ∷ rest) ≡ Some (seen, rest)

-- the value of a token was taken into a field
pub record TakesScalar (field : AskedField) (token : Token) (before after : Gathered) : Type 0 where
  pub seen : Json
  pub scalar : IsScalar token seen
  pub gains : Gains (option_map (named_values field.name) (single_values field.of seen))
      before after

-- the items of an array were taken into a field, up to its bracket
pub record TakesItems (field : AskedField) (old new : List Token) (before after : Gathered)
    : Type 0 where
  pub seen : Items
  pub read : items (value (max_depth - 2)) (length old) old ≡ Some (seen, new)
  pub gains : Gains (option_map (named_values field.name) (item_values field.of seen)) before after
  pub shorter : length new < length old

-- the values of a member were taken into its field
pub record TakesValue (field : AskedField) (old new : List Token) (before after : Gathered)
    : Type 0 where
  pub seen : Json
  pub read : value (max_depth - 1) old ≡ Some (seen, new)
  pub gains : Gains (option_map (named_values field.name) (member_values field.of seen))
      before after
  pub shorter : length new < length old

-- the members of an object were taken into the asked fields, up to its brace
pub record TakesMembers (asked : List AskedField) (old new : List Token) (before after : Gathered)
    : Type 0 where
  pub seen : Members
  pub read : members (value (max_depth - 1)) (length old) old ≡ Some (seen, new)
  pub gains : Gains (values_of_fields (field_values (object seen)) asked) before after

-- the object that a text is was taken into the asked fields
pub record TakesText (asked : List AskedField) (text : List ℕ) (before after : Gathered) : Type 0
  where
    pub seen : Members
    pub is : document text ≡ Some (object seen)
    pub gains : Gains (values_of_fields (field_values (object seen)) asked) before after
