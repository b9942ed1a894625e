-- The keys after which a page begins, as texts: the values of the sources, as a line of CSV.
use Rattle.std.specs.Prelude.{◌≡◌, ◌≢◌, ◌<◌, ◌⊎◌, ◌∷◌, [], ℕ, List, Option, None, Some, Ok, Err, ⊤}
use Rattle.std.specs.Prelude.{AllPairs, if◌then◌else◌, is_none, length}
use Rattle.csv.specs.Machine.{Read, next_record}
use Rattle.csv.specs.Reading.{default_config, strip_bom}
use Rattle.csv.specs.declared.parser.State.TheVariants as st
use Rattle.agg_values.specs.KeyText.{IsKeyText}
use Rattle.agg_values.specs.Names.{Named, put}
use Rattle.agg_values.specs.Nothing.{NoneIs}
use Rattle.agg_values.specs.TypedKey.{CompositeIntermediateKey}
use Rattle.agg_values.specs.declared.after_key.AfterKey.{AfterKey}
use Rattle.agg_segment.specs.storage.Document.{said_key}
use Rattle.agg_segment.specs.declared.storage.document.FieldValue.{FieldValue}
use Rattle.peslumok_texts.specs.fields.Types.{type_of}
use Rattle.peslumok_texts.specs.fields.Values.{text_value}
use Rattle.peslumok_texts.specs.declared.fields.error.ValueError.{ValueError}
use Rattle.peslumok_texts.specs.declared.fields.error.ValueError.TheVariants as why
use Rattle.peslumok_texts.specs.declared.fields.field_type.FieldType.{FieldType}
use Rattle.peslumok_texts.specs.words.By.{parts}
use Rattle.peslumok_texts.specs.declared.words.by.BySpec.{BySpec}
use Rattle.peslumok_front.specs.grouping.Sources.{column_name}
use Rattle.peslumok_front.specs.declared.grouping.error.GroupingError.{GroupingError}
use Rattle.peslumok_front.specs.declared.grouping.error.GroupingError.TheVariants as error
use Rattle.peslumok_front.specs.declared.grouping.grouping.Grouping.{Grouping}

-- ---- values

-- the cells of a record that no other one follows; where there is no record, there is no cell
abbrev pub only_record : Option Read → Option (List (List ℕ))
only_record None = Some []
only_record (Some read) =
    if is_none (next_record default_config read.1 [] [] read.2) then Some read.0 else None

-- the values of a text: the cells of the one line of CSV that it is
abbrev pub values_in : List ℕ → Option (List (List ℕ))
values_in text = only_record (next_record default_config st.StartRecord [] [] (strip_bom text))

-- ---- keys

-- a text stands for a value of a type, whose key is this
abbrev pub IsValueKey : FieldType → List ℕ → CompositeIntermediateKey → Type 0
IsValueKey type text key =
    (value : FieldValue) × (text_value type text ≡ Ok value) × (key ≡ said_key value)

-- a text is read as a key: it has its kind in front, or else it is a value of a type
abbrev pub ReadsAs : FieldType → List ℕ → CompositeIntermediateKey → Type 0
ReadsAs type text key = IsKeyText text key ⊎ (NoneIs (IsKeyText text) × IsValueKey type text key)

-- these keys of sources, each by the name of its source
abbrev pub keys_by_name : List BySpec → List AfterKey → Named AfterKey
keys_by_name [] keys = []
keys_by_name (by ∷ sources) [] = []
keys_by_name (by ∷ sources) (key ∷ keys) =
    put (column_name (parts by)) key (keys_by_name sources keys)

-- values are read as keys, each of its source
abbrev pub AreReadAs : Named FieldType → List BySpec → List (List ℕ) → List AfterKey → Type 0
AreReadAs types sources [] keys = keys ≡ []
AreReadAs types [] (value ∷ values) keys = ⊥
AreReadAs types (by ∷ sources) (value ∷ values) [] = ⊥
AreReadAs types (by ∷ sources) (value ∷ values) (key ∷ keys) =
    ReadsAs (type_of types by.field.now) value key.0 × AreReadAs types sources values keys

-- an after key has the keys of the first sources that values are read as
abbrev pub IsKeyOfValues : Named FieldType → List BySpec → List (List ℕ) → Named AfterKey → Type 0
IsKeyOfValues types sources values after =
    (keys : List AfterKey) × AreReadAs types sources values keys
    × (after ≡ keys_by_name sources keys)

-- a text is that of an after key: its values are read as the keys of the first sources
abbrev pub IsAfterText : Grouping → List ℕ → Named AfterKey → Type 0
IsAfterText grouping text after =
    (values : List (List ℕ)) × (values_in text ≡ Some values)
    × IsKeyOfValues grouping.types grouping.by.items values after

-- ---- what is no after key

-- a value of a source's field is none, for this reason
pub record IsBadValue (types : Named FieldType) (by : BySpec) (value field : List ℕ)
    (fault : ValueError) : Type 0 where
  pub of_field : field ≡ by.field.now
  pub no_key : NoneIs (IsKeyText value)
  pub refused : text_value (type_of types by.field.now) value ≡ Err fault

-- the refusal of a value of a field
abbrev pub refusal_of : List ℕ → ValueError → GroupingError
refusal_of field why.OutOfMemory = error.OutOfMemory
refusal_of field refused = error.AfterValue field refused

-- why a value is read as no key of its source; running out of memory needs no cause
abbrev pub IsUnreadKey : Named FieldType → BySpec → List ℕ → GroupingError → Type 0
IsUnreadKey types by value error.OutOfMemory = ⊤
IsUnreadKey types by value (error.AfterValue field fault) = IsBadValue types by value field fault
IsUnreadKey types by value _ = ⊥

-- the value of some source is none of its field, for this reason
abbrev pub HasBadValue : Named FieldType → List BySpec → List (List ℕ) → List ℕ → ValueError
    → Type 0
HasBadValue types sources [] field fault = ⊥
HasBadValue types [] (value ∷ values) field fault = ⊥
HasBadValue types (by ∷ sources) (value ∷ values) field fault =
    IsBadValue types by value field fault ⊎ HasBadValue types sources values field fault

-- why values are read as no keys of their sources
abbrev pub IsUnreadValue : Named FieldType → List BySpec → List (List ℕ) → GroupingError → Type 0
IsUnreadValue types sources values error.OutOfMemory = ⊤
IsUnreadValue types sources values (error.AfterValue field fault) =
    HasBadValue types sources values field fault
IsUnreadValue types sources values _ = ⊥

-- a text is refused as having too much, unless memory ran out
abbrev pub IsExtra : List ℕ → GroupingError → Type 0
IsExtra text refusal =
    (refusal ≡ error.OutOfMemory) ⊎ (refusal ≡ error.ExtraValue text)

-- there are more values than sources, or more than one line of them
abbrev pub HasMore : List BySpec → Option (List (List ℕ)) → Type 0
HasMore sources None = ⊤
HasMore sources (Some values) = length sources < length values

-- why a text is that of no after key; running out of memory needs no cause
abbrev pub IsNoAfterText : Grouping → List ℕ → GroupingError → Type 0
IsNoAfterText grouping text error.OutOfMemory = ⊤
IsNoAfterText grouping text (error.AfterValue field fault) =
    (values : List (List ℕ)) × (values_in text ≡ Some values)
    × HasBadValue grouping.types grouping.by.items values field fault
IsNoAfterText grouping text (error.ExtraValue extra) =
    (extra ≡ text) × HasMore grouping.by.items (values_in text)
IsNoAfterText grouping text _ = ⊥

-- ---- what is written

-- no two sources are called the same
abbrev pub HaveOwnColumns : List BySpec → Type 0
HaveOwnColumns sources =
    AllPairs (λ by other. column_name (parts by) ≢ column_name (parts other)) sources

-- an after key names the first sources, and nothing else
abbrev pub NamesFirst : List BySpec → Named AfterKey → Type 0
NamesFirst sources after = (keys : List AfterKey) × (after ≡ keys_by_name sources keys)
