-- What queries and numbers say that is known and not supported: a text of a key's type that is left
-- out, a text in place of a query, and a number that isn't whole. Such a value is refused for it,
-- where it would be of the grammar otherwise.
use Rattle.std.specs.Prelude.{◌≡◌, ◌⊎◌, ℕ, zero, suc, List, Some, IsSome, codes, option_and_then}
use Rattle.serde_json.specs.Data.{Data, Items, no_items, item, Members, no_members, member, depth}
use Rattle.serde_json.specs.Find.{as_array, as_str, get}
use Rattle.agg_values.specs.KeyText.{IsRefusedAs}
use Rattle.agg_values.specs.declared.error.KeyTextError.TheVariants as key_text
use Rattle.agg_request.specs.json_values.Json.{IsFloat, only_member, text_at}

-- ---- numbers and lists

-- a number that isn't whole stands at a member
abbrev pub HasFloatAt : List ℕ → Data → Type 0
HasFloatAt name body = (d : Data) × (get name body ≡ Some d) × IsFloat d

-- some item has it
abbrev pub HasUnsupportedItem : (Data → Type 0) → Items → Type 0
HasUnsupportedItem Has no_items = ⊥
HasUnsupportedItem Has (item d items) = Has d ⊎ HasUnsupportedItem Has items

-- some item of a list has it
abbrev pub HasUnsupportedList : (Data → Type 0) → List ℕ → Data → Type 0
HasUnsupportedList Has name body =
    (items : Items) × (option_and_then as_array (get name body) ≡ Some items)
    × HasUnsupportedItem Has items

-- some member has it
abbrev pub HasUnsupportedMember : (Data → Type 0) → Members → Type 0
HasUnsupportedMember Has no_members = ⊥
HasUnsupportedMember Has (member name d members) = Has d ⊎ HasUnsupportedMember Has members

-- ---- queries

-- a text of the type that isn't supported
abbrev pub IsUnsupportedText : List ℕ → Type 0
IsUnsupportedText text = IsRefusedAs text key_text.Unsupported

-- the text at a member is of the type that isn't supported
abbrev pub HasUnsupportedAt : List ℕ → Data → Type 0
HasUnsupportedAt name d = (text : List ℕ) × (text_at name d ≡ Some text) × IsUnsupportedText text

-- the text at one of the two members of a bound is
abbrev pub HasUnsupportedEnd : List ℕ → List ℕ → Data → Type 0
HasUnsupportedEnd including excluding body =
    HasUnsupportedAt including body ⊎ HasUnsupportedAt excluding body

-- the text at a bound of a range is
abbrev pub HasUnsupportedBound : Data → Type 0
HasUnsupportedBound body =
    HasUnsupportedEnd (codes "gte") (codes "gt") body
    ⊎ HasUnsupportedEnd (codes "lte") (codes "lt") body

-- some filter in one of the three lists of a body has a text of that type
abbrev pub HasUnsupportedBody : (Data → Type 0) → Data → Type 0
HasUnsupportedBody Has body =
    HasUnsupportedList Has (codes "must") body ⊎ HasUnsupportedList Has (codes "should") body
    ⊎ HasUnsupportedList Has (codes "must_not") body

-- a text of that type stands at the place of a value in a body of this kind
abbrev pub HasUnsupportedIn : (Data → Type 0) → List ℕ → Data → Type 0
HasUnsupportedIn Has kind body =
    ((kind ≡ codes "term") × HasUnsupportedAt (codes "value") body)
    ⊎ ((kind ≡ codes "range") × HasUnsupportedBound body)
    ⊎ ((kind ≡ codes "bool") × HasUnsupportedBody Has body)

-- a text of that type stands at the place of a value in a filter, within so many levels
abbrev pub HasUnsupportedFilter : ℕ → Data → Type 0
HasUnsupportedFilter zero d = ⊥
HasUnsupportedFilter (suc levels) d =
    (kind : List ℕ) × (body : Data) × (only_member d ≡ Some (kind, body))
    × HasUnsupportedIn (HasUnsupportedFilter levels) kind body

-- a text in place of a query, or a value's text of the type that isn't supported
abbrev pub HasUnsupportedQuery : Data → Type 0
HasUnsupportedQuery d = IsSome (as_str d) ⊎ HasUnsupportedFilter (suc (depth d)) d
