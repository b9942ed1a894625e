-- Queries as JSON: the value that stands for a query is a filter, an object with one member, whose
-- name is the filter's kind and whose value is its body.
use Rattle.std.specs.Prelude.{◌≡◌, ◌⊎◌, ◌∷◌, [], ℕ, zero, suc, List, Bool, true}
use Rattle.std.specs.Prelude.{false, None, Some, codes, IsTrue}
use Rattle.serde_json.specs.Data.{Data}
use Rattle.serde_json.specs.Data.{depth}
use Rattle.serde_json.specs.Find.{as_str, get}
use Rattle.agg_values.specs.KeyText.{IsKeyText}
use Rattle.agg_values.specs.declared.error.KeyTextError.TheVariants as key_text
use Rattle.agg_values.specs.TypedKey.{CompositeIntermediateKey}
use Rattle.agg_segment.specs.storage.Document.{said_key}
use Rattle.agg_segment.specs.declared.storage.document.FieldValue.{FieldValue}
use Rattle.agg_segment.specs.declared.query.RangeBound.{RangeBound}
use Rattle.agg_segment.specs.declared.query.RangeBound.TheVariants.{Unbounded, Included, Excluded}
use Rattle.agg_segment.specs.declared.query.QueryTree.{QueryTree}
use Rattle.agg_segment.specs.declared.query.QueryTree.TheVariants.{All, Empty, Term, Range, Exists}
use Rattle.agg_segment.specs.declared.query.QueryTree.TheVariants.{Boolean}
use Rattle.agg_request.specs.json_values.Json.{IsField, IsListAt, has_only}
use Rattle.agg_request.specs.json_values.Json.{only_member, text_at}
use Rattle.agg_request.specs.json_values.Unsupported.{IsUnsupportedText}
use Rattle.agg_values.specs.Nothing.{NoneIs}

-- ---- values

-- a text says a key; leniently, one of the type that isn't supported says any
abbrev pub SaysKey : Bool → List ℕ → CompositeIntermediateKey → Type 0
SaysKey lenient text key = IsKeyText text key ⊎ (IsTrue lenient × IsUnsupportedText text)

-- a text says a value
abbrev pub Says : Bool → List ℕ → FieldValue → Type 0
Says lenient text value = SaysKey lenient text (said_key value)

-- ---- members

-- the text at a member says a value
abbrev pub SaysAt : Bool → List ℕ → Data → FieldValue → Type 0
SaysAt lenient name d value =
    (text : List ℕ) × (text_at name d ≡ Some text) × Says lenient text value

-- ---- filters by their bodies

-- a body with no members
abbrev pub IsPlain : QueryTree → Data → QueryTree → Type 0
IsPlain plain body tree = (has_only [] body ≡ true) × (tree ≡ plain)

-- a field and a value
abbrev pub IsTerm : Bool → Data → QueryTree → Type 0
IsTerm lenient body tree =
    (field : List ℕ) × (value : FieldValue) × (tree ≡ Term field value)
    × (has_only (codes "field" ∷ codes "value" ∷ []) body ≡ true)
    × IsField body field × SaysAt lenient (codes "value") body value

-- a value at one of two members, or at neither
abbrev pub IsBound : Bool → List ℕ → List ℕ → Data → RangeBound → Type 0
IsBound lenient including excluding body Unbounded =
    (get including body ≡ None) × (get excluding body ≡ None)
IsBound lenient including excluding body (Included value) =
    SaysAt lenient including body value × (get excluding body ≡ None)
IsBound lenient including excluding body (Excluded value) =
    SaysAt lenient excluding body value × (get including body ≡ None)

-- the names of the members of a range
abbrev pub range_names : List (List ℕ)
range_names = codes "field" ∷ codes "gt" ∷ codes "gte" ∷ codes "lt" ∷ codes "lte" ∷ []

-- a field with a bound on each side
abbrev pub IsRange : Bool → Data → QueryTree → Type 0
IsRange lenient body tree =
    (field : List ℕ) × (lower : RangeBound) × (upper : RangeBound)
    × (tree ≡ Range field lower upper) × (has_only range_names body ≡ true)
    × IsField body field × IsBound lenient (codes "gte") (codes "gt") body lower
    × IsBound lenient (codes "lte") (codes "lt") body upper

-- a field
abbrev pub IsExists : Data → QueryTree → Type 0
IsExists body tree =
    (field : List ℕ) × (tree ≡ Exists field) × (has_only (codes "field" ∷ []) body ≡ true)
    × IsField body field

-- the names of the lists of filters
abbrev pub list_names : List (List ℕ)
list_names = codes "must" ∷ codes "should" ∷ codes "must_not" ∷ []

-- three lists of filters
abbrev pub IsBoolean : (Data → QueryTree → Type 0) → Data → QueryTree → Type 0
IsBoolean IsInner body tree =
    (must : List QueryTree) × (should : List QueryTree) × (must_not : List QueryTree)
    × (tree ≡ Boolean must should must_not) × (has_only list_names body ≡ true)
    × IsListAt IsInner (codes "must") body must × IsListAt IsInner (codes "should") body should
    × IsListAt IsInner (codes "must_not") body must_not

-- the body of a filter of this kind
abbrev pub IsOfKind : Bool → (Data → QueryTree → Type 0) → List ℕ → Data → QueryTree → Type 0
IsOfKind lenient IsInner kind body tree =
    ((kind ≡ codes "all") × IsPlain All body tree)
    ⊎ ((kind ≡ codes "empty") × IsPlain Empty body tree)
    ⊎ ((kind ≡ codes "term") × IsTerm lenient body tree)
    ⊎ ((kind ≡ codes "range") × IsRange lenient body tree)
    ⊎ ((kind ≡ codes "exists") × IsExists body tree)
    ⊎ ((kind ≡ codes "bool") × IsBoolean IsInner body tree)

-- a filter that stands for a query, with at most so many filters, one inside another
abbrev pub IsFilter : Bool → ℕ → Data → QueryTree → Type 0
IsFilter lenient zero d tree = ⊥
IsFilter lenient (suc levels) d tree =
    (kind : List ℕ) × (body : Data) × (only_member d ≡ Some (kind, body))
    × IsOfKind lenient (IsFilter lenient levels) kind body tree

-- a filter that stands for a query, of as many levels as the value has
abbrev pub IsFilterOf : Bool → Data → QueryTree → Type 0
IsFilterOf lenient d = IsFilter lenient (suc (depth d)) d

-- a value that stands for a query
abbrev pub IsQuery : Data → QueryTree → Type 0
IsQuery = IsFilterOf false

-- no text, and no filter, were texts of the type that isn't supported taken as values
abbrev pub IsNoQueryAtAll : Data → Type 0
IsNoQueryAtAll d = (as_str d ≡ None) × NoneIs (IsFilterOf true d)
