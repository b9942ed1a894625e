-- Looking into JSON values.
use Rattle.std.specs.Prelude.{◌≡◌, ◌⊎◌, ◌==◌, ◌∷◌, ◌&&◌, ◌^◌, [], ℕ, ℤ, List, Bool, true}
use Rattle.std.specs.Prelude.{false, Float, Option, None, Some, if◌then◌else◌, is_some, option_map}
use Rattle.std.specs.Prelude.{option_and_then, nat_lt, codes, ⊤}
use Rattle.std.specs.List.{list_any}
use Rattle.std.specs.Str.{bytes_eq}
use Rattle.agg_values.specs.Names.{Named}
use Rattle.serde_json.specs.Data.{Data, number, float, object, Items, no_items, item, Members}
use Rattle.serde_json.specs.Data.{no_members, member}
use Rattle.serde_json.specs.Events.{members_len}
use Rattle.serde_json.specs.Find.{as_array, as_i64, as_null, as_number, as_str, as_u64, get}
use Rattle.serde_json.specs.Find.{get_member}

-- whether it is an object of so many members
abbrev pub has_members : ℕ → Data → Bool
has_members count (object members) = members_len members == count
has_members count _ = false

-- the one member of an object that has no other
abbrev pub only_member : Data → Option (List ℕ × Data)
only_member (object (member name d no_members)) = Some (name, d)
only_member _ = None

-- the value of that member, where it has this name
abbrev pub only_named : List ℕ → Data → Option Data
only_named name d =
    option_and_then (λ m. if bytes_eq m.0 name then Some m.1 else None) (only_member d)

-- the value of a member, where it isn't null
abbrev pub present : List ℕ → Data → Option Data
present name d = option_and_then (λ v. if is_some (as_null v) then None else Some v) (get name d)

-- a whole number within i64
abbrev pub whole_number : Data → Option ℤ
whole_number d = option_and_then as_i64 (as_number d)

-- a whole number within u32
abbrev pub small_number : Data → Option ℕ
small_number d =
    option_and_then
    (λ n. if nat_lt n (2 ^ 32) then Some n else None)
    (option_and_then as_u64 (as_number d))

-- an object of one member
abbrev pub alone : List ℕ → Data → Data
alone name d = object (member name d no_members)

-- the value, under one for each item, where each has one
abbrev pub each_item : {A : Type 0} → (Data → Option A) → Items → Option (List A)
each_item value no_items = Some []
each_item value (item d items) =
    option_and_then (λ x. option_map (λ xs. x ∷ xs) (each_item value items)) (value d)

-- the members of other names
abbrev pub others : List ℕ → Members → Named Data
others name no_members = []
others name (member other d members) =
    if bytes_eq other name then others name members else (other, d) ∷ others name members

-- the only one of a list
abbrev pub the_only : {A : Type 0} → List A → Option A
the_only (x ∷ []) = Some x
the_only _ = None

-- the one member of an object that has another name
abbrev pub only_other : List ℕ → Data → Option (List ℕ × Data)
only_other name (object members) = the_only (others name members)
only_other name _ = None

-- the names of members
abbrev pub names_in : Members → List (List ℕ)
names_in no_members = []
names_in (member name d members) = name ∷ names_in members

-- whether an object has a member of this name
abbrev pub has_member : List ℕ → Members → Bool
has_member name members = is_some (get_member name members)

-- the only item
abbrev pub one_item : Items → Option Data
one_item (item d no_items) = Some d
one_item _ = None

-- the one item of an array that has no other
abbrev pub only_item : Data → Option Data
only_item d = option_and_then one_item (as_array d)

-- ---- members by their names

-- whether a name is one of these
abbrev pub is_among : List ℕ → List (List ℕ) → Bool
is_among name names = list_any (bytes_eq name) names

-- whether each member has one of these names
abbrev pub all_among : List (List ℕ) → Members → Bool
all_among names no_members = true
all_among names (member name d members) = is_among name names && all_among names members

-- whether it is an object with no other members than these
abbrev pub has_only : List (List ℕ) → Data → Bool
has_only names (object members) = all_among names members
has_only names _ = false

-- the text at a member
abbrev pub text_at : List ℕ → Data → Option (List ℕ)
text_at name d = option_and_then as_str (get name d)

-- the name of a field
abbrev pub IsField : Data → List ℕ → Type 0
IsField body field = text_at (codes "field") body ≡ Some field

-- ---- what each says

-- each item is such, one by one
abbrev pub EachIs : {A : Type 0} → (Data → A → Type 0) → Items → List A → Type 0
EachIs Is no_items [] = ⊤
EachIs Is (item d items) (x ∷ xs) = Is d x × EachIs Is items xs
EachIs Is _ _ = ⊥

-- what stands there is such a value; where nothing stands there it is this one
abbrev pub IsOr : {A : Type 0} → A → (Data → A → Type 0) → Option Data → A → Type 0
IsOr given Is None x = x ≡ given
IsOr given Is (Some d) x = Is d x

-- an array of such items
abbrev pub IsArray : {A : Type 0} → (Data → A → Type 0) → Data → List A → Type 0
IsArray Is d xs = (items : Items) × (as_array d ≡ Some items) × EachIs Is items xs

-- what may stand at a member is an array of such items; where it is absent there are none
abbrev pub IsList : {A : Type 0} → (Data → A → Type 0) → Option Data → List A → Type 0
IsList Is = IsOr [] (IsArray Is)

-- at the member of a name stands an array of such items; where there is none there are no items
abbrev pub IsListAt : {A : Type 0} → (Data → A → Type 0) → List ℕ → Data → List A → Type 0
IsListAt Is name d = IsList Is (get name d)

-- each member has its name and such a value, one by one
abbrev pub EachNamedIs : {A : Type 0} → (Data → A → Type 0) → Members → Named A → Type 0
EachNamedIs Is no_members [] = ⊤
EachNamedIs Is (member name d members) (x ∷ xs) =
    (x.0 ≡ name) × Is d x.1 × EachNamedIs Is members xs
EachNamedIs Is _ _ = ⊥

-- what stands there is such a value, or nothing stands there and there is none
abbrev pub IsGiven : {A : Type 0} → (Data → A → Type 0) → Option Data → Option A → Type 0
IsGiven Is None None = ⊤
IsGiven Is (Some d) (Some x) = Is d x
IsGiven Is _ _ = ⊥

-- ---- whole numbers

-- a number that isn't whole, or lies outside 64 bits
abbrev pub IsFloat : Data → Type 0
IsFloat d = (x : Float) × (d ≡ number (float x))

-- a whole number as it is taken; leniently, a number that isn't whole is any
abbrev pub IsWhole : {A : Type 0} → (Data → Option A) → Bool → Data → A → Type 0
IsWhole taken false d n = taken d ≡ Some n
IsWhole taken true d n = (taken d ≡ Some n) ⊎ IsFloat d

-- the one at the member of a name, which has to be there
abbrev pub IsWholeAt : {A : Type 0} → (Data → Option A) → List ℕ → Bool → Data → A → Type 0
IsWholeAt taken name lenient body n =
    (d : Data) × (get name body ≡ Some d) × IsWhole taken lenient d n
