-- The builders of queries that were handed in and are still unused.
use Rattle.std.specs.Prelude.{◌∷◌, [], ℕ, zero, suc, List, Option, None, Some, if◌then◌else◌}
use Rattle.std.specs.Prelude.{option_map}
use Rattle.std.specs.Prelude.{option_and_then, codes}
use Rattle.std.specs.Str.{bytes_eq}
use Rattle.serde_json.specs.Data.{Data, Members, no_members, member}
use Rattle.serde_json.specs.Find.{as_object, as_str, get}
use Rattle.agg_request.specs.json_values.Json.{only_named, only_other}

-- the first builder of a name, and the others
abbrev pub taken : {B : Type 0} → (B → List ℕ) → List ℕ → List B → Option (B × List B)
taken name_of name [] = None
taken name_of name (b ∷ pool) =
    if bytes_eq (name_of b) name then Some (b, pool)
    else option_map (λ t. (t.0, b ∷ t.1)) (taken name_of name pool)

-- the name of the builder that a filter asks for, if it asks for one
abbrev pub builder_name : Data → Option (List ℕ)
builder_name body = option_and_then as_str (only_named (codes "builder") body)

-- the builders that a filter leaves; none where the one that it asks for isn't there
abbrev pub left_by_filter : {B : Type 0} → (B → List ℕ) → Option (List ℕ) → List B
    → Option (List B)
left_by_filter name_of None pool = Some pool
left_by_filter name_of (Some name) pool = option_map (λ t. t.1) (taken name_of name pool)

-- the builders that an aggregation of this kind leaves to those below it
abbrev pub left_by_kind : {B : Type 0} → (B → List ℕ) → List ℕ → Data → List B
    → Option (List B)
left_by_kind name_of kind body pool =
    if bytes_eq kind (codes "filter") then left_by_filter name_of (builder_name body) pool
    else Some pool

-- the builders that the one member that is a kind leaves, all where there is no such member
abbrev pub left_by_own : {B : Type 0} → (B → List ℕ) → Option (List ℕ × Data) → List B
    → Option (List B)
left_by_own name_of None pool = Some pool
left_by_own name_of (Some m) pool = left_by_kind name_of m.0 m.1 pool

-- the builders that each of these leaves to the next
abbrev pub left_by_each : {B : Type 0} → (Data → List B → Option (List B)) → Members → List B
    → Option (List B)
left_by_each left no_members pool = Some pool
left_by_each left (member name d members) pool =
    option_and_then (left_by_each left members) (left d pool)

-- the builders that the members of an object leave, all where there is no object
abbrev pub left_by_object : {B : Type 0} → (Data → List B → Option (List B)) → Option Members
    → List B → Option (List B)
left_by_object left None pool = Some pool
left_by_object left (Some members) pool = left_by_each left members pool

-- the builders that those below an aggregation leave, where this says what each of them leaves
abbrev pub left_by_below : {B : Type 0} → (Data → List B → Option (List B)) → Data → List B
    → Option (List B)
left_by_below left d pool =
    left_by_object left (option_and_then as_object (get (codes "aggs") d)) pool

-- the builders that an aggregation leaves, within so many levels: it takes its own first, and then
-- those below it take theirs
abbrev pub left_behind : {B : Type 0} → (B → List ℕ) → ℕ → Data → List B → Option (List B)
left_behind name_of zero d pool = Some pool
left_behind name_of (suc levels) d pool =
    option_and_then (left_by_below (left_behind name_of levels) d)
    (left_by_own name_of (only_other (codes "aggs") d) pool)

-- the builders that those below an aggregation leave, within so many levels
abbrev pub left_below : {B : Type 0} → (B → List ℕ) → ℕ → Data → List B → Option (List B)
left_below name_of levels = left_by_below (left_behind name_of levels)
