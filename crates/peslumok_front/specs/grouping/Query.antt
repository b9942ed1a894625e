-- What a grouping asks of documents: conditions, and a query in JSON.
use Rattle.std.specs.Prelude.{◌≡◌, ℕ, List, [], ◌∷◌, ◌++◌, Bool, true, false, ◌&&◌, not, codes}
use Rattle.std.specs.Prelude.{◌⊎◌, Any, Option, Some, None, Result, Ok, Err, ⊤, option_map}
use Rattle.std.specs.Prelude.{if◌then◌else◌}
use Rattle.std.specs.List.{list_all, list_any}
use Rattle.std.specs.Str.{bytes_eq}
use Rattle.serde_json.specs.Data.{Data}
use Rattle.serde_json.specs.Read.{read}
use Rattle.agg_values.specs.Names.{Named}
use Rattle.agg_values.specs.Nothing.{NoneIs}
use Rattle.agg_values.specs.TypedKey.{CompositeIntermediateKey}
use Rattle.agg_segment.specs.storage.Document.{Fields}
use Rattle.agg_segment.specs.declared.storage.document.FieldValue.{FieldValue}
use Rattle.agg_segment.specs.declared.storage.document.FieldValue.TheVariants as field_value
use Rattle.agg_segment.specs.Query.{holds, is_any, is_between, is_value, matches}
use Rattle.agg_segment.specs.declared.query.QueryTree.{QueryTree}
use Rattle.agg_segment.specs.declared.query.QueryTree.TheVariants.{All}
use Rattle.agg_segment.specs.declared.query.RangeBound.{RangeBound}
use Rattle.agg_segment.specs.declared.query.RangeBound.TheVariants.{Unbounded, Included, Excluded}
use Rattle.agg_request.specs.json_values.Query.{IsQuery}
use Rattle.agg_request.specs.json_values.Unsupported.{HasUnsupportedQuery}
use Rattle.agg_request.specs.declared.json_values.read_error.ReadError.{ReadError}
use Rattle.agg_request.specs.declared.json_values.read_error.ReadError.TheVariants as reading
use Rattle.peslumok_texts.specs.fields.Types.{type_of}
use Rattle.peslumok_texts.specs.fields.Values.{text_value}
use Rattle.peslumok_texts.specs.declared.fields.error.ValueError.{ValueError}
use Rattle.peslumok_texts.specs.declared.fields.field_type.FieldType.{FieldType}
use Rattle.peslumok_texts.specs.declared.fields.field_type.FieldType.TheVariants.{Plain}
use Rattle.peslumok_texts.specs.words.Condition.{Demand, Parts, parts, is, is_not, below, at_most}
use Rattle.peslumok_texts.specs.words.Condition.{above, at_least, exists}
use Rattle.peslumok_front.specs.declared.grouping.condition.End.{End}
use Rattle.peslumok_front.specs.declared.grouping.condition.End.TheVariants.{With, Without}
use Rattle.peslumok_front.specs.declared.grouping.error.GroupingError.{GroupingError}
use Rattle.peslumok_front.specs.declared.grouping.error.GroupingError.TheVariants as error
use Rattle.peslumok_front.specs.declared.grouping.error.QueryFault.{QueryFault}
use Rattle.peslumok_front.specs.declared.grouping.error.QueryFault.TheVariants as fault
use Rattle.peslumok_front.specs.declared.grouping.grouping.Grouping.{Grouping}

-- ---- conditions

-- the truth value of a word, if it is one's
abbrev pub truth_of : List ℕ → Option Bool
truth_of word =
    if bytes_eq word (codes "true") then Some true
    else if bytes_eq word (codes "false") then Some false else None

-- the value of a truth value, if there is one
abbrev pub truth_values : Option Bool → List FieldValue
truth_values None = []
truth_values (Some b) = field_value.Bool b ∷ []

-- what a text means in a plain field beside its value: the very text, and a truth value
abbrev pub plain_values : List ℕ → List FieldValue
plain_values text = field_value.Str text ∷ truth_values (truth_of text)

-- what a text means beside its value in a field of a type
abbrev pub other_values : FieldType → List ℕ → List FieldValue
other_values Plain text = plain_values text
other_values _ text = []

-- a value that was read, if one was
abbrev pub if_read : Result FieldValue ValueError → List FieldValue
if_read (Ok value) = value ∷ []
if_read (Err why) = []

-- the values that a text means in a field of a type
abbrev pub values_meant : FieldType → List ℕ → List FieldValue
values_meant of text = if_read (text_value of text) ++ other_values of text

-- whether a key is that of one of these values
abbrev pub is_one_of : List FieldValue → CompositeIntermediateKey → Bool
is_one_of values key = list_any (λ value. is_value value key) values

-- whether a field holds what a text means
abbrev pub holds_text : FieldType → List ℕ → List ℕ → Fields → Bool
holds_text of text = holds (is_one_of (values_meant of text))

-- no bound, whatever the value
abbrev pub no_bound : FieldValue → RangeBound
no_bound value = Unbounded

-- the bound at a value, with it or without it
abbrev pub bound_at : End → FieldValue → RangeBound
bound_at With = Included
bound_at Without = Excluded

-- whether a field holds a key between the bounds that a value gives
abbrev pub holds_between : (FieldValue → RangeBound) → (FieldValue → RangeBound)
    → Result FieldValue ValueError → List ℕ → Fields → Bool
holds_between lower upper (Ok value) field document =
    holds (is_between (lower value) (upper value)) field document
holds_between lower upper (Err why) field document = false

-- whether a field of a type passes a test
abbrev pub passes : FieldType → Demand → List ℕ → Fields → Bool
passes of (is text) = holds_text of text
passes of (is_not text) = λ field document. not (holds_text of text field document)
passes of (below text) = holds_between no_bound Excluded (text_value of text)
passes of (at_most text) = holds_between no_bound Included (text_value of text)
passes of (above text) = holds_between Excluded no_bound (text_value of text)
passes of (at_least text) = holds_between Included no_bound (text_value of text)
passes of exists = holds is_any

-- whether a document meets a condition, by the types of fields
abbrev pub meets : Named FieldType → Parts → Fields → Bool
meets types condition = passes (type_of types condition.field) condition.test condition.field

-- whether a document meets every condition of a grouping
abbrev pub meets_all : Grouping → Fields → Bool
meets_all grouping document =
    list_all (λ c. meets grouping.types (parts c) document) grouping.conditions.items

-- ---- the query

-- a text is JSON that says a query
abbrev pub SaysQuery : List ℕ → QueryTree → Type 0
SaysQuery text said = (d : Data) × (read text ≡ Some d) × IsQuery d said

-- the query of a text; all documents, where there is no text
abbrev pub IsSaid : Option (List ℕ) → QueryTree → Type 0
IsSaid None said = said ≡ All
IsSaid (Some text) said = SaysQuery text said

-- the text of a grouping's query, if it has one
abbrev pub query_text : Grouping → Option (List ℕ)
query_text grouping = option_map (λ text. text.now) grouping.query

-- a query matches just the documents that meet every condition and match the query of the text
pub record IsQueryOf (grouping : Grouping) (query : QueryTree) : Type 0 where
  pub said : QueryTree
  pub is_said : IsSaid (query_text grouping) said
  pub matched : (document : Fields)
      → matches query document ≡ (meets_all grouping document && matches said document)

-- ---- why there is none

-- a text stands for no value of a field of a type, and why; or memory is refused
abbrev pub RefusesText : FieldType → List ℕ → List ℕ → GroupingError → Type 0
RefusesText of field text error.OutOfMemory = ⊤
RefusesText of field text (error.Value its_field its_text why) =
    (its_field ≡ field) × (its_text ≡ text) × (text_value of text ≡ Err why)
RefusesText of field text _ = ⊥

-- the text of a test is refused so
abbrev pub RefusesTest : FieldType → Demand → List ℕ → GroupingError → Type 0
RefusesTest of (is text) field refusal = RefusesText of field text refusal
RefusesTest of (is_not text) field refusal = RefusesText of field text refusal
RefusesTest of (below text) field refusal = RefusesText of field text refusal
RefusesTest of (at_most text) field refusal = RefusesText of field text refusal
RefusesTest of (above text) field refusal = RefusesText of field text refusal
RefusesTest of (at_least text) field refusal = RefusesText of field text refusal
RefusesTest of exists field refusal = refusal ≡ error.OutOfMemory

-- the text of a condition is refused so, by the types of fields
abbrev pub RefusesCondition : Named FieldType → Parts → GroupingError → Type 0
RefusesCondition types condition =
    RefusesTest (type_of types condition.field) condition.test condition.field

-- the text of some condition of a grouping is refused so, or memory is
abbrev pub RefusesConditions : Grouping → GroupingError → Type 0
RefusesConditions grouping error.OutOfMemory = ⊤
RefusesConditions grouping refusal =
    Any (λ c. RefusesCondition grouping.types (parts c) refusal) grouping.conditions.items

-- a text says no query, for this reason
abbrev pub SaysNoQuery : List ℕ → QueryFault → Type 0
SaysNoQuery text (fault.NoJson line column) = read text ≡ None
SaysNoQuery text fault.NoQuery = (d : Data) × (read text ≡ Some d) × NoneIs (IsQuery d)
SaysNoQuery text fault.Unsupported =
    (d : Data) × (read text ≡ Some d) × HasUnsupportedQuery d × NoneIs (IsQuery d)

-- what a reader of queries refuses, as it is told
abbrev pub refusal_of : ReadError → GroupingError
refusal_of reading.Unsupported = error.Query fault.Unsupported
refusal_of reading.OutOfMemory = error.OutOfMemory
refusal_of _ = error.Query fault.NoQuery

-- a text is refused that says no query, or memory is
abbrev pub RefusesSaid : List ℕ → GroupingError → Type 0
RefusesSaid text error.OutOfMemory = ⊤
RefusesSaid text (error.Query why) = SaysNoQuery text why
RefusesSaid text _ = ⊥

-- a text is given, and refused so
abbrev pub RefusesGiven : Option (List ℕ) → GroupingError → Type 0
RefusesGiven None refusal = ⊥
RefusesGiven (Some text) refusal = RefusesSaid text refusal

-- why a grouping has no query: the text of a condition or of the query is refused
abbrev pub HasNoQuery : Grouping → GroupingError → Type 0
HasNoQuery grouping refusal =
    RefusesConditions grouping refusal ⊎ RefusesGiven (query_text grouping) refusal
