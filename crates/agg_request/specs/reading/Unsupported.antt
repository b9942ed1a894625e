-- What requests say that is known and not supported: kinds that are left out, what a kind may not
-- have below it, numbers that aren't whole, texts of a key's type that is left out, and values for
-- documents without one. A request that says it is refused for it, where it would be of the grammar
-- otherwise.
use Rattle.std.specs.Prelude.{◌≡◌, ◌⊎◌, ◌∷◌, [], ℕ, zero, suc, List, true, false, Option, Some}
use Rattle.std.specs.Prelude.{IsSome, codes, option_and_then}
use Rattle.serde_json.specs.Data.{Data, Members, depth}
use Rattle.serde_json.specs.Find.{as_object, as_str, get}
use Rattle.agg_request.specs.json_values.Json.{is_among, names_in, only_member, only_other, present}
use Rattle.agg_request.specs.json_values.Unsupported.{HasFloatAt, HasUnsupportedList}
use Rattle.agg_request.specs.json_values.Unsupported.{HasUnsupportedMember, HasUnsupportedQuery}
use Rattle.agg_request.specs.json_values.Unsupported.{IsUnsupportedText}
use Rattle.agg_request.specs.reading.Kinds.{may_hold, metric_kinds}

-- ---- composites

-- a text of the type that isn't supported
abbrev pub IsUnsupportedKey : Data → Type 0
IsUnsupportedKey d = (text : List ℕ) × (as_str d ≡ Some text) × IsUnsupportedText text

-- the least value of a body is such a text
abbrev pub HasUnsupportedLeast : Data → Type 0
HasUnsupportedLeast body =
    (d : Data) × (present (codes "min") body ≡ Some d) × IsUnsupportedKey d

-- the body of a histogram has an interval that isn't whole, or its least value is such a text
abbrev pub HasUnsupportedNumbers : Data → Type 0
HasUnsupportedNumbers body = HasFloatAt (codes "interval") body ⊎ HasUnsupportedLeast body

-- the body of a source has an interval that isn't whole, or its least value is such a text
abbrev pub HasUnsupportedInterval : List ℕ → Data → Type 0
HasUnsupportedInterval kind body =
    ((kind ≡ codes "histogram") × HasFloatAt (codes "interval") body) ⊎ HasUnsupportedLeast body

-- a source has such a body
abbrev pub HasUnsupportedKind : Data → Type 0
HasUnsupportedKind d =
    (name : List ℕ) × (kind : List ℕ) × (named : Data) × (body : Data)
    × (only_member d ≡ Some (name, named)) × (only_member named ≡ Some (kind, body))
    × HasUnsupportedInterval kind body

-- some source of a body has
abbrev pub HasUnsupportedSource : Data → Type 0
HasUnsupportedSource = HasUnsupportedList HasUnsupportedKind (codes "sources")

-- some member of an after key is such a text
abbrev pub HasUnsupportedAfter : Option Data → Type 0
HasUnsupportedAfter d =
    (members : Members) × (option_and_then as_object d ≡ Some members)
    × HasUnsupportedMember IsUnsupportedKey members

-- a size or an interval that isn't whole, or a text of that type in the after key
abbrev pub HasUnsupportedComposite : Data → Type 0
HasUnsupportedComposite body =
    HasFloatAt (codes "size") body ⊎ HasUnsupportedSource body
    ⊎ HasUnsupportedAfter (get (codes "after") body)

-- ---- requests

-- the kinds that are known and left out
abbrev pub unsupported_kinds : List (List ℕ)
unsupported_kinds =
    codes "avg" ∷ codes "stats" ∷ codes "extended_stats" ∷ codes "percentiles"
    ∷ codes "cardinality" ∷ codes "terms" ∷ codes "range" ∷ codes "histogram"
    ∷ codes "date_histogram" ∷ codes "top_hits" ∷ []

-- a kind is one of those that are left out
abbrev pub IsUnsupportedKind : List ℕ → Type 0
IsUnsupportedKind kind = is_among kind unsupported_kinds ≡ true

-- what a kind's body says isn't supported, or the kind itself isn't
abbrev pub HasUnsupportedAsked : List ℕ → Data → Type 0
HasUnsupportedAsked kind body =
    IsUnsupportedKind kind
    ⊎ ((kind ≡ codes "filter") × HasUnsupportedQuery body)
    ⊎ ((kind ≡ codes "composite") × HasUnsupportedComposite body)
    ⊎ ((is_among kind metric_kinds ≡ true) × IsSome (present (codes "missing") body))

-- an aggregation of this kind has below it what it may not hold, or something that has it
abbrev pub HasUnsupportedBelow : (Data → Type 0) → List ℕ → Option Data → Type 0
HasUnsupportedBelow Has kind d =
    (members : Members) × (option_and_then as_object d ≡ Some members)
    × ((may_hold kind (names_in members) ≡ false) ⊎ HasUnsupportedMember Has members)

-- an aggregation says something that isn't supported, within so many levels
abbrev pub HasUnsupportedAggregation : ℕ → Data → Type 0
HasUnsupportedAggregation zero d = ⊥
HasUnsupportedAggregation (suc levels) d =
    (kind : List ℕ) × (body : Data) × (only_other (codes "aggs") d ≡ Some (kind, body))
    × (HasUnsupportedAsked kind body
    ⊎ HasUnsupportedBelow (HasUnsupportedAggregation levels) kind (get (codes "aggs") d))

-- a request says something that isn't supported
abbrev pub HasUnsupportedRequest : Data → Type 0
HasUnsupportedRequest d =
    (members : Members) × (as_object d ≡ Some members)
    × HasUnsupportedMember (HasUnsupportedAggregation (suc (depth d))) members
