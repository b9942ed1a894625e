-- Requests as JSON: an object from name to aggregation, each an object whose one member besides
-- `aggs` is its kind, and at `aggs` those below it. `lenient` is false for what is read, and true
-- only tells a fault of grammar from what isn't supported; `pool` has the unused builders, and
-- `name_of` is a builder's name.
use Rattle.std.specs.Prelude.{◌≡◌, ◌⊎◌, ◌∷◌, [], ℕ, zero, suc, List, Bool, true, false}
use Rattle.std.specs.Prelude.{Option, None, Some, option_map, codes, IsSome, IsTrue, ⊤}
use Rattle.serde_json.specs.Data.{Data, Members, no_members, member, depth}
use Rattle.serde_json.specs.Find.{as_object, as_str, get}
use Rattle.agg_request.specs.reading.Builders.{builder_name, left_behind, left_by_each}
use Rattle.agg_request.specs.reading.Builders.{left_by_kind, taken}
use Rattle.agg_request.specs.reading.CompositeJson.{IsCompositeJson}
use Rattle.agg_request.specs.reading.Kinds.{may_hold}
use Rattle.agg_request.specs.reading.Unsupported.{IsUnsupportedKind}
use Rattle.agg_request.specs.json_values.Json.{IsField, names_in, only_other, present}
use Rattle.agg_request.specs.json_values.Query.{IsFilterOf}
use Rattle.agg_values.specs.Nothing.{NoneIs}
use Rattle.agg_request_tree.specs.Request.{Request, agg_of, below_of}
use Rattle.agg_request_tree.specs.declared.aggregation.Aggregation.{Aggregation}
use Rattle.agg_request_tree.specs.declared.aggregation.AggregationVariants as variants
use variants.{AggregationVariants}
use variants.TheVariants.{Filter, Composite, Count, Max, Min, Sum}
use Rattle.agg_request_tree.specs.declared.aggregation.filter.FilterQuery.{FilterQuery}
use Rattle.agg_request_tree.specs.declared.aggregation.filter.FilterQuery.TheVariants as by
use by.{Tree, CustomBuilder}

-- ---- one aggregation

-- the field of a metric's body; leniently, a value for documents without one may stand there too
abbrev pub IsMetric : Bool → Data → List ℕ → Type 0
IsMetric lenient body field =
    IsField body field × (IsTrue lenient ⊎ (present (codes "missing") body ≡ None))

-- the query of a filter's body: a tree, or the first unused builder of the name that it asks for;
-- leniently, a text says any tree, and so does a name
abbrev pub IsQueryOf : {B : Type 0} → Bool → (B → List ℕ) → Data → List B → FilterQuery B
    → Type 0
IsQueryOf lenient name_of body pool (Tree tree) =
    IsFilterOf lenient body tree
    ⊎ (IsTrue lenient × (IsSome (as_str body) ⊎ IsSome (builder_name body)))
IsQueryOf lenient name_of body pool (CustomBuilder builder) =
    (name : List ℕ) × (builder_name body ≡ Some name)
    × (option_map (λ t. t.0) (taken name_of name pool) ≡ Some builder)

-- the name of the kind of an aggregation
abbrev pub kind_word : {B : Type 0} → AggregationVariants B → List ℕ
kind_word (Filter filter) = codes "filter"
kind_word (Composite composite) = codes "composite"
kind_word (Count metric) = codes "value_count"
kind_word (Max metric) = codes "max"
kind_word (Min metric) = codes "min"
kind_word (Sum metric) = codes "sum"

-- the body of an aggregation of its kind, with these builders unused
abbrev pub IsBody : {B : Type 0} → Bool → (B → List ℕ) → Data → List B
    → AggregationVariants B → Type 0
IsBody lenient name_of body pool (Filter filter) =
    IsQueryOf lenient name_of body pool filter.query
IsBody lenient name_of body pool (Composite composite) = IsCompositeJson lenient body composite
IsBody lenient name_of body pool (Count metric) = IsMetric lenient body metric.field
IsBody lenient name_of body pool (Max metric) = IsMetric lenient body metric.field
IsBody lenient name_of body pool (Min metric) = IsMetric lenient body metric.field
IsBody lenient name_of body pool (Sum metric) = IsMetric lenient body metric.field

-- what the body of a kind asks, with these builders unused
abbrev pub IsAsked : {B : Type 0} → Bool → (B → List ℕ) → List ℕ → Data → List B
    → AggregationVariants B → Type 0
IsAsked lenient name_of kind body pool agg =
    (kind ≡ kind_word agg) × IsBody lenient name_of body pool agg

-- what the body of a kind asks; leniently, a kind that is left out asks anything
abbrev pub IsKind : {B : Type 0} → Bool → (B → List ℕ) → List ℕ → Data → List B
    → AggregationVariants B → Type 0
IsKind lenient name_of kind body pool agg =
    IsAsked lenient name_of kind body pool agg ⊎ (IsTrue lenient × IsUnsupportedKind kind)

-- ---- at any depth

-- these builders are left; leniently, any
abbrev pub IsLeft : {B : Type 0} → Bool → Option (List B) → List B → Type 0
IsLeft lenient left pool = (left ≡ Some pool) ⊎ IsTrue lenient

-- each member has its name and is such an aggregation, with the builders that those before it leave
abbrev pub AreAggregations : {B : Type 0} → Bool → (Data → List B → Option (List B))
    → (Data → List B → Aggregation B → Type 0) → Members → List B → Request B → Type 0
AreAggregations lenient left Is no_members pool [] = ⊤
AreAggregations {B = B} lenient left Is (member name d members) pool (a ∷ request) =
    (a.0 ≡ name) × Is d pool a.1
    × ((mid : List B) × IsLeft lenient (left d pool) mid
    × AreAggregations lenient left Is members mid request)
AreAggregations lenient left Is _ pool _ = ⊥

-- the aggregations below one of this kind, none where nothing stands there; leniently, those that
-- it may not hold too
abbrev pub IsBelow : {B : Type 0} → Bool → (Data → List B → Option (List B))
    → (Data → List B → Aggregation B → Type 0) → List ℕ → Option Data → List B → Request B
    → Type 0
IsBelow lenient left Is kind None pool below = below ≡ []
IsBelow lenient left Is kind (Some d) pool below =
    (members : Members) × (as_object d ≡ Some members)
    × (IsTrue lenient ⊎ (may_hold kind (names_in members) ≡ true))
    × AreAggregations lenient left Is members pool below

-- an aggregation, with at most so many, one inside another
abbrev pub IsAggregation : {B : Type 0} → Bool → (B → List ℕ) → ℕ → Data → List B
    → Aggregation B → Type 0
IsAggregation lenient name_of zero d pool a = ⊥
IsAggregation {B = B} lenient name_of (suc levels) d pool a =
    (kind : List ℕ) × (body : Data) × (only_other (codes "aggs") d ≡ Some (kind, body))
    × IsKind lenient name_of kind body pool (agg_of a)
    × ((mid : List B) × IsLeft lenient (left_by_kind name_of kind body pool) mid
    × IsBelow lenient (left_behind name_of levels) (IsAggregation lenient name_of levels) kind
    (get (codes "aggs") d) mid (below_of a))

-- a request, with at most so many aggregations, one inside another
abbrev pub IsRequestWithin : {B : Type 0} → Bool → (B → List ℕ) → ℕ → Members → List B
    → Request B → Type 0
IsRequestWithin lenient name_of levels =
    AreAggregations lenient (left_behind name_of levels) (IsAggregation lenient name_of levels)

-- a request, of as many levels as the value has, with these builders
abbrev pub IsRequestOf : {B : Type 0} → Bool → (B → List ℕ) → Data → List B → Request B → Type 0
IsRequestOf lenient name_of d pool request =
    (members : Members) × (as_object d ≡ Some members)
    × IsRequestWithin lenient name_of (suc (depth d)) members pool request

-- a request that a value says, where a filter that asks for a builder takes the first unused one of
-- the name; aggregations take theirs in the order of their names, and each before those below it
abbrev pub IsRequestJson : {B : Type 0} → (B → List ℕ) → Data → List B → Request B → Type 0
IsRequestJson = IsRequestOf false

-- a value says no request with these builders
abbrev pub IsNoRequest : {B : Type 0} → (B → List ℕ) → Data → List B → Type 0
IsNoRequest name_of d pool = NoneIs (IsRequestJson name_of d pool)

-- no request, whatever builders there are, were all that isn't supported taken as something
abbrev pub IsNoRequestAtAll : {B : Type 0} → (B → List ℕ) → Data → Type 0
IsNoRequestAtAll {B = B} name_of d =
    (lenient : Bool) (some : List B) → NoneIs (IsRequestOf lenient name_of d some)

-- ---- builders

-- a filter of a request asks for a builder of which none is left
abbrev pub HasUnknownBuilder : {B : Type 0} → (B → List ℕ) → Data → List B → Type 0
HasUnknownBuilder name_of d pool =
    (members : Members) × (as_object d ≡ Some members)
    × (left_by_each (left_behind name_of (suc (depth d))) members pool ≡ None)
