-- The values that a JSON value has for asked fields, and its document.
use Rattle.std.specs.Prelude.{ℕ, List, [], ◌∷◌, Option, Some, None, option_and_then, option_map}
use Rattle.std.specs.Prelude.{Bool, codes, if◌then◌else◌}
use Rattle.json.specs.Json.{Json, null, boolean, number, string, array, object, Items}
use Rattle.json.specs.Json.{no_items, item}
use Rattle.json.specs.Find.{as_object, get, later_or}
use Rattle.agg_segment.specs.storage.Document.{Fields}
use Rattle.agg_segment.specs.declared.storage.document.FieldValue.{FieldValue}
use Rattle.agg_segment.specs.declared.storage.document.FieldValue.TheVariants as value
use Rattle.peslumok_texts.specs.fields.Values.{numeral_value, string_value}
use Rattle.peslumok_texts.specs.declared.fields.field_type.FieldType.{FieldType}
use Rattle.peslumok_texts.specs.declared.fields.field_type.FieldType.TheVariants as of
use Rattle.peslumok_records.specs.held.Asked.{path_of}
use Rattle.peslumok_records.specs.held.Values.{alone, document_of_fields, joined, value_read}
use Rattle.peslumok_records.specs.declared.held.asked.AskedField.{AskedField}

-- the member at the end of a path
abbrev pub member_at : List (List ℕ) → Json → Option Json
member_at [] d = Some d
member_at (name ∷ path) d = option_and_then (member_at path) (get name d)

-- the member of a field: the one of its very name, or else the one at the end of its path
abbrev pub member_of : AskedField → Json → Option Json
member_of field d = later_or (get field.name d) (member_at (path_of field.name) d)

-- the word of a truth value
abbrev pub bool_word : Bool → List ℕ
bool_word b = if b then codes "true" else codes "false"

-- the value of `true` or `false`: as it is in a plain field, and its word in a field of texts
abbrev pub bool_value : FieldType → Bool → Option FieldValue
bool_value of.Plain b = Some (value.Bool b)
bool_value of.Text b = value_read (string_value of.Text (bool_word b))
bool_value of.Date b = value_read (string_value of.Date (bool_word b))
bool_value (of.DateNumber unit) b = value_read (string_value (of.DateNumber unit) (bool_word b))
bool_value (of.Decimal places) b = value_read (string_value (of.Decimal places) (bool_word b))

-- the values of one that is no array: `null` has none, and an object stands for none
abbrev pub single_values : FieldType → Json → Option (List FieldValue)
single_values of null = Some []
single_values of (boolean b) = option_map alone (bool_value of b)
single_values of (number text) = option_map alone (value_read (numeral_value of text))
single_values of (string text) = option_map alone (value_read (string_value of text))
single_values of (array _) = None
single_values of (object _) = None

-- the values of the items of an array
abbrev pub item_values : FieldType → Items → Option (List FieldValue)
item_values of no_items = Some []
item_values of (item d items) = joined (single_values of d) (item_values of items)

-- the values of a member: one, or those of an array
abbrev pub member_values : FieldType → Json → Option (List FieldValue)
member_values of null = single_values of null
member_values of (boolean b) = single_values of (boolean b)
member_values of (number text) = single_values of (number text)
member_values of (string text) = single_values of (string text)
member_values of (array items) = item_values of items
member_values of (object inner) = single_values of (object inner)

-- the values of a member that may be missing
abbrev pub values_of_member : FieldType → Option Json → Option (List FieldValue)
values_of_member of None = Some []
values_of_member of (Some d) = member_values of d

-- the values that an asked field has in an object
abbrev pub field_values : Json → AskedField → Option (List FieldValue)
field_values d field = values_of_member field.of (member_of field d)

-- the document of an object
abbrev pub object_document : List AskedField → Json → Option Fields
object_document asked d =
    option_and_then (λ _. document_of_fields (field_values d) asked) (as_object d)
