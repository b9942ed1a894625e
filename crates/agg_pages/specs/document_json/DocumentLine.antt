-- The document of a line: an object from field to a value, or to an array of values.
use Rattle.std.specs.Prelude.{◌≡◌, ◌⊎◌, ℕ, ℤ, List, [], ◌∷◌, Option, None, Some, codes}
use Rattle.std.specs.Prelude.{IsSome}
use Rattle.std.specs.Prelude.{if◌then◌else◌, is_some, option_and_then, option_map, unwrap_or}
use Rattle.std.specs.List.{AllZip}
use Rattle.serde_json.specs.Data.{Data, null, boolean, number, string, array, object, Items}
use Rattle.serde_json.specs.Data.{no_items, item}
use Rattle.serde_json.specs.Find.{as_array, as_integer, as_null, as_object, as_str, get}
use Rattle.serde_json.specs.Read.{read}
use Rattle.agg_values.specs.AddressGrammar.{IsAddressText}
use Rattle.agg_values.specs.TypedKey.{CompositeIntermediateKey, typed_number}
use Rattle.agg_values.specs.declared.typed_key.CompositeIntermediateKey.TheVariants as key
use Rattle.agg_segment.specs.storage.Document.{Fields, by_class}
use Rattle.agg_request.specs.json_values.Json.{IsOr, only_named, whole_number}

-- a date: an object whose one member is `dt`, its nanoseconds within i64
abbrev pub date_of : Data → Option ℤ
date_of d = option_and_then whole_number (only_named (codes "dt") d)

-- the text of an address: an object whose one member is `ip`
abbrev pub address_text_of : Data → Option (List ℕ)
address_text_of d = option_and_then as_str (only_named (codes "ip") d)

-- the key of a value that is no address
abbrev pub plain_key : Data → Option CompositeIntermediateKey
plain_key null = None
plain_key (boolean b) = Some (key.Bool b)
plain_key (number n) = option_map typed_number (as_integer n)
plain_key (string text) = Some (key.Str text)
plain_key (array items) = None
plain_key (object members) = option_map key.DateTime (date_of (object members))

-- the value is an address, and this is its key
abbrev pub IsAddressKey : Data → CompositeIntermediateKey → Type 0
IsAddressKey d found =
    (text : List ℕ) × (address : ℕ)
    × (address_text_of d ≡ Some text)
    × IsAddressText text address
    × (found ≡ key.IpAddr (record { 0 = address }))

-- the value has this key
abbrev pub HasKey : Data → CompositeIntermediateKey → Type 0
HasKey d found = (plain_key d ≡ Some found) ⊎ IsAddressKey d found

-- values have these keys, one by one
abbrev pub HaveKeys : List Data → List CompositeIntermediateKey → Type 0
HaveKeys values keys = AllZip HasKey values keys

-- the values among these: all but `null`, which is none
abbrev pub values_among : Items → List Data
values_among no_items = []
values_among (item d items) =
    if is_some (as_null d) then values_among items else d ∷ values_among items

-- the values of a field: those of an array, or the one that stands there
abbrev pub field_values : Data → List Data
field_values d = values_among (unwrap_or (as_array d) (item d no_items))

-- a field of a document has the keys of this member by class, and none where there is no member
abbrev pub IsField : Option Data → List CompositeIntermediateKey → Type 0
IsField =
    IsOr [] (λ d keys. (given : List CompositeIntermediateKey)
    × HaveKeys (field_values d) given
    × (keys ≡ by_class given))

-- an object, and the document that it stands for
pub record IsDocument (d : Data) (document : Fields) : Type 0 where
  pub members : IsSome (as_object d)
  pub fields : (field : List ℕ) → IsField (get field d) (document field)

-- the document of a line
abbrev pub IsDocumentLine : List ℕ → Fields → Type 0
IsDocumentLine line document = (d : Data) × (read line ≡ Some d) × IsDocument d document
