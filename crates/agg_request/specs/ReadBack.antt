-- What is written for requests, read back.
use Rattle.std.specs.Prelude.{◌≡◌, ◌<◌, ◌++◌, ℕ, List, false, Option, None, Some, ⊤}
use Rattle.serde_json.specs.Data.{Data, depth}
use Rattle.agg_values.specs.KeyText.{IsKeyText, key_text}
use Rattle.agg_values.specs.Names.{Named}
use Rattle.agg_values.specs.declared.after_key.AfterKey.{AfterKey}
use Rattle.agg_segment.specs.storage.Document.{said_key}
use Rattle.agg_segment.specs.declared.storage.document.FieldValue.{FieldValue}
use Rattle.agg_segment.specs.declared.query.RangeBound.{RangeBound}
use Rattle.agg_segment.specs.declared.query.RangeBound.TheVariants.{Unbounded, Included, Excluded}
use Rattle.agg_segment.specs.declared.query.QueryTree.{QueryTree}
use Rattle.agg_request.specs.json_values.Json.{EachNamedIs}
use Rattle.agg_request.specs.reading.Builders.{left_behind, left_by_kind}
use Rattle.agg_request.specs.reading.CompositeJson.{IsKeyJson, SaysValue}
use Rattle.agg_request.specs.json_values.Query.{IsFilter}
use Rattle.agg_request_tree.specs.Request.{Request, with_builders_in, builders_of, listed_in}
use Rattle.agg_request_tree.specs.Request.{own_builder, with_builders}
use Rattle.agg_request.specs.reading.RequestJson.{IsAggregation, IsAsked, IsRequestJson, kind_word}
use Rattle.agg_request.specs.WrittenJson.{data_of_key, members_of}
use Rattle.agg_request_tree.specs.declared.aggregation.Aggregation.{Aggregation}
use Rattle.agg_request_tree.specs.declared.aggregation.AggregationVariants.{AggregationVariants}

-- a value is what is written of something, and says it
abbrev pub IsWritten : {A : Type 0} → (A → Data) → (Data → A → Type 0) → Data → A → Type 0
IsWritten data_of Says d x = (d ≡ data_of x) × Says d x

-- the text that is written of a value says it
abbrev pub IsReadBack : FieldValue → Type 0
IsReadBack value = IsKeyText (key_text (said_key value)) (said_key value)

-- the text that is written of the value of a bound says it, where the bound has a value
abbrev pub IsBoundReadBack : RangeBound → Type 0
IsBoundReadBack Unbounded = ⊤
IsBoundReadBack (Included value) = IsReadBack value
IsBoundReadBack (Excluded value) = IsReadBack value

-- the texts that are written of keys say them
abbrev pub AreKeysReadBack : Named AfterKey → Type 0
AreKeysReadBack keys = EachNamedIs (IsKeyJson false) (members_of data_of_key keys) keys

-- so does that of a least value, where there is one
abbrev pub IsLeastReadBack : Option AfterKey → Type 0
IsLeastReadBack None = ⊤
IsLeastReadBack (Some least) = SaysValue false (data_of_key least) least

-- a value says a query, within more levels than it has
abbrev pub SaysFilter : Data → QueryTree → Type 0
SaysFilter d tree = (n : ℕ) → depth d < n → IsFilter false n d tree

-- a body says what is asked, and takes the builder that it asks for, the first of those that there
-- are
abbrev pub SaysKind : {B : Type 0} → (B → List ℕ) → Data → AggregationVariants B → Type 0
SaysKind {B = B} name_of body agg =
    (rest : List B)
    → IsAsked false name_of (kind_word agg) body (own_builder agg ++ rest) agg
    × (left_by_kind name_of (kind_word agg) body (own_builder agg ++ rest) ≡ Some rest)

-- a value says an aggregation, within more levels than it has, and takes the builders that the
-- aggregation has, the first of those that there are
abbrev pub SaysItself : {B : Type 0} → (B → List ℕ) → Data → Aggregation B → Type 0
SaysItself {B = B} name_of d a =
    (n : ℕ) → depth d < n → (rest : List B)
    → IsAggregation false name_of n d (listed_in own_builder a ++ rest) a
    × (left_behind name_of n d (listed_in own_builder a ++ rest) ≡ Some rest)

-- a value says an aggregation with any builders of the same names, and takes these
abbrev pub SaysAggregation : {B : Type 0} → (B → List ℕ) → Data → Aggregation B → Type 0
SaysAggregation {B = B} name_of d a =
    (other : Aggregation B) → with_builders_in name_of other ≡ with_builders_in name_of a
    → SaysItself name_of d other

-- a value, read with the builders of a request that is the same but for its builders, which have
-- the same names, is that request; others after them are not taken
abbrev pub ReadsBack : {B : Type 0} → (B → List ℕ) → Data → Request B → Type 0
ReadsBack {B = B} name_of d request =
    (other : Request B) (rest : List B)
    → with_builders name_of other ≡ with_builders name_of request
    → IsRequestJson name_of d (builders_of other ++ rest) other
