-- Lists of filters: what is read of each item, and of the three lists of a body.
use Rattle.std.proofs.Common.{◌≡◌, ◌<◌, ◌≤◌, ◌+◌, false, ℕ, zero, suc, List, [], ◌∷◌, ◌++◌}
use Rattle.std.proofs.Common.{get_or, length, take, Option, Some, Result, IsErrAnd, codes, sym}
use Rattle.std.proofs.Common.{subst, arith, inl, inr}
use Rattle.std.proofs.Common.{Ordering, Less, Equal, Greater, ap}
use Rattle.std.specs.Ordering.{match_ordering, nat_cmp}
use Rattle.std.specs.Cmp.Lexicographic.{slice_cmp}
use Rattle.serde_json.specs.Data.{Data, null, boolean, number, string, array, object, Items}
use Rattle.serde_json.specs.Data.{Members, no_members, member, depth, items_depth, members_depth}
use Rattle.serde_json.specs.Find.{as_array, get, get_member}
use Rattle.serde_json.specs.View.{view, items_view}
use Rattle.serde_json.specs.declared.value.Value.{Value}
use Rattle.agg_segment.specs.declared.query.QueryTree.{QueryTree}
use Rattle.agg_request.specs.json_values.Json.{EachIs}
use Rattle.agg_request.specs.json_values.Json.{IsList, IsListAt}
use Rattle.agg_request.specs.json_values.Query.{IsBoolean}
use Rattle.agg_request.specs.json_values.Unsupported.{HasUnsupportedItem, HasUnsupportedList}
use Rattle.agg_request.specs.json_values.Unsupported.{HasUnsupportedFilter, HasUnsupportedBody}
use Rattle.agg_request.specs.json_values.Query.{IsFilter}
use Rattle.agg_request.specs.json_values.Reading.{IsReading, IsRefusal}
use Rattle.agg_request.specs.declared.json_values.read_error.ReadError.{ReadError}
use Rattle.agg_request.proofs.lemmas.json_values.Items.{each_at, each_more, some_at}
use Rattle.agg_request.proofs.lemmas.json_values.Readings.{read_as, refused_by}

-- ---- items

-- an item lies no lower than the deepest
pub item_lower : (vs : List Value) (i : ℕ) (x : Value) → i < length vs
    → depth (view (get_or vs i x)) ≤ items_depth (items_view vs)
item_lower [] i x below = absurd (omega (arith, below))
item_lower (v ∷ vs) zero x below = omega arith
item_lower (v ∷ vs) (suc i) x below = omega (arith, item_lower vs i x (omega (arith, below)))

-- ---- the items of an array

-- what is read of the items so far
abbrev pub ReadSoFar : List Value → ℕ → List QueryTree → Type 0
ReadSoFar vs i trees =
    (n : ℕ) → items_depth (items_view vs) < n
    → EachIs (IsFilter false n) (items_view (take i vs)) trees

-- one more item is read
pub read_more : (vs : List Value) (i : ℕ) (x : Value) (trees : List QueryTree) (tree : QueryTree)
    (more : List QueryTree) → i < length vs → x ≡ get_or vs i x → ReadSoFar vs i trees
    → ((n : ℕ) → depth (view x) < n → IsFilter false n (view x) tree)
    → more ≡ trees ++ tree ∷ [] → ReadSoFar vs (i + 1) more
read_more vs i x trees tree more below at done told put n deep =
    let shallow = subst (λ y. depth (view y) ≤ items_depth (items_view vs)) (sym at)
    (item_lower vs i x below) in
    each_more (IsFilter false n) vs i x trees tree more below at (done n deep)
    (told n (omega (arith, shallow, deep))) put

-- a refused item refuses the array
pub refused_item : (vs : List Value) (i : ℕ) (x : Value) (error : ReadError)
    (result : Result (List QueryTree) ReadError) → i < length vs → x ≡ get_or vs i x
    → IsErrAnd result (λ e. e ≡ error)
    → ((n : ℕ) → depth (view x) < n → IsRefusal (λ lenient. IsFilter lenient n (view x))
    (HasUnsupportedFilter n (view x)) error)
    → (n : ℕ) → items_depth (items_view vs) < n
    → IsReading (λ lenient. EachIs (IsFilter lenient n) (items_view vs))
    (HasUnsupportedItem (HasUnsupportedFilter n) (items_view vs)) result
refused_item vs i x error result below at is told n deep =
    let shallow = subst (λ y. depth (view y) ≤ items_depth (items_view vs)) (sym at)
    (item_lower vs i x below) in
    refused_by (λ lenient. IsFilter lenient n (view x)) (HasUnsupportedFilter n (view x))
    (λ lenient. EachIs (IsFilter lenient n) (items_view vs))
    (HasUnsupportedItem (HasUnsupportedFilter n) (items_view vs)) error result is
    (told n (omega (arith, shallow, deep)))
    (λ h. some_at (HasUnsupportedFilter n) vs i x below
    (subst (λ y. HasUnsupportedFilter n (view y)) at h))
    (λ lenient trees h. let one = each_at (IsFilter lenient n) vs i x trees below h in
    (one.0, subst (λ y. IsFilter lenient n (view y) one.0) (sym at) one.1))

-- ---- the list at a member

-- what is found at a member lies lower than the object
found_lower : (o : Ordering) (a : Option Data) (b e : Data) (n : ℕ)
    → match_ordering o a (Some b) a ≡ Some e → depth b ≤ n
    → ((d : Data) → a ≡ Some d → depth d ≤ n) → depth e ≤ n
found_lower Less a b e n h p q = q e h
found_lower Equal a b e n h p q = let same : b ≡ e = cc in subst (λ x. depth x ≤ n) same p
found_lower Greater a b e n h p q = q e h

-- what is found among members lies no lower than the deepest of them
member_lower : (k : List ℕ) (ms : Members) (e : Data) → get_member k ms ≡ Some e
    → depth e ≤ members_depth ms
member_lower k no_members e h = absurd (cc)
member_lower k (member l d ms) e h =
    found_lower (slice_cmp nat_cmp k l) (get_member k ms) d e _ h (omega arith)
    (λ x y. omega (arith, member_lower k ms x y))

-- what is found at a name of a value lies lower than the value
pub get_lower : (k : List ℕ) (d e : Data) → get k d ≡ Some e → depth e < depth d
get_lower k null e h = absurd (cc)
get_lower k (boolean b) e h = absurd (cc)
get_lower k (number n) e h = absurd (cc)
get_lower k (string s) e h = absurd (cc)
get_lower k (array ds) e h = absurd (cc)
get_lower k (object ms) e h = omega (arith, member_lower k ms e h)

-- items lie lower than their array
pub array_lower : (d : Data) (ds : Items) → as_array d ≡ Some ds → items_depth ds < depth d
array_lower null ds h = absurd (cc)
array_lower (boolean b) ds h = absurd (cc)
array_lower (number n) ds h = absurd (cc)
array_lower (string s) ds h = absurd (cc)
array_lower (array es) ds h = let same : es ≡ ds = cc in omega (arith, ap items_depth same)
array_lower (object ms) ds h = absurd (cc)

-- the items of a list at a member are those that were found
same_items : (Is : Data → QueryTree → Type 0) (name : List ℕ) (body found : Data) (items : Items)
    (trees : List QueryTree) → get name body ≡ Some found → as_array found ≡ Some items
    → IsListAt Is name body trees → EachIs Is items trees
same_items Is name body found items trees there inner h =
    let list = subst (λ o. IsList Is o trees) there h in
    let same : list.0 ≡ items = (let e = list.1 in cc) in
    subst (λ ds. EachIs Is ds trees) same list.2

-- what is read of the items is read of the member
pub read_found : (name : List ℕ) (body found : Data) (items : Items)
    (result : Result (List QueryTree) ReadError) → get name body ≡ Some found
    → as_array found ≡ Some items
    → ((n : ℕ) → items_depth items < n → IsReading (λ lenient. EachIs (IsFilter lenient n) items)
    (HasUnsupportedItem (HasUnsupportedFilter n) items) result)
    → (n : ℕ) → depth body < n
    → IsReading (λ lenient. IsListAt (IsFilter lenient n) name body)
    (HasUnsupportedList (HasUnsupportedFilter n) name body) result
read_found name body found items result there inner told n deep =
    read_as (λ lenient. EachIs (IsFilter lenient n) items)
    (HasUnsupportedItem (HasUnsupportedFilter n) items)
    (λ lenient. IsListAt (IsFilter lenient n) name body)
    (HasUnsupportedList (HasUnsupportedFilter n) name body) result
    (told n (omega (arith, get_lower name body found there, array_lower found items inner, deep)))
    (λ trees h. subst (λ o. IsList (IsFilter false n) o trees) (sym there) (items, inner, h))
    (λ h. (items, rw there inner, h))
    (λ lenient trees h. same_items (IsFilter lenient n) name body found items trees there inner h)

-- ---- the three lists of a body

-- a refused list refuses the body
pub refused_must : (n : ℕ) (body : Data) (error : ReadError) (result : Result QueryTree ReadError)
    → IsErrAnd result (λ e. e ≡ error)
    → IsRefusal (λ lenient. IsListAt (IsFilter lenient n) (codes "must") body)
    (HasUnsupportedList (HasUnsupportedFilter n) (codes "must") body) error
    → IsReading (λ lenient. IsBoolean (IsFilter lenient n) body)
    (HasUnsupportedBody (HasUnsupportedFilter n) body) result
refused_must n body error result is told =
    refused_by (λ lenient. IsListAt (IsFilter lenient n) (codes "must") body)
    (HasUnsupportedList (HasUnsupportedFilter n) (codes "must") body)
    (λ lenient. IsBoolean (IsFilter lenient n) body)
    (HasUnsupportedBody (HasUnsupportedFilter n) body)
    error result is told (λ h. inl h) (λ lenient tree h. (h.0, h.5))

-- a refused second list refuses the body
pub refused_should : (n : ℕ) (body : Data) (error : ReadError)
    (result : Result QueryTree ReadError) → IsErrAnd result (λ e. e ≡ error)
    → IsRefusal (λ lenient. IsListAt (IsFilter lenient n) (codes "should") body)
    (HasUnsupportedList (HasUnsupportedFilter n) (codes "should") body) error
    → IsReading (λ lenient. IsBoolean (IsFilter lenient n) body)
    (HasUnsupportedBody (HasUnsupportedFilter n) body) result
refused_should n body error result is told =
    refused_by (λ lenient. IsListAt (IsFilter lenient n) (codes "should") body)
    (HasUnsupportedList (HasUnsupportedFilter n) (codes "should") body)
    (λ lenient. IsBoolean (IsFilter lenient n) body)
    (HasUnsupportedBody (HasUnsupportedFilter n) body)
    error result is told (λ h. inr (inl h)) (λ lenient tree h. (h.1, h.6))

-- a refused third list refuses the body
pub refused_must_not : (n : ℕ) (body : Data) (error : ReadError)
    (result : Result QueryTree ReadError) → IsErrAnd result (λ e. e ≡ error)
    → IsRefusal (λ lenient. IsListAt (IsFilter lenient n) (codes "must_not") body)
    (HasUnsupportedList (HasUnsupportedFilter n) (codes "must_not") body) error
    → IsReading (λ lenient. IsBoolean (IsFilter lenient n) body)
    (HasUnsupportedBody (HasUnsupportedFilter n) body) result
refused_must_not n body error result is told =
    refused_by (λ lenient. IsListAt (IsFilter lenient n) (codes "must_not") body)
    (HasUnsupportedList (HasUnsupportedFilter n) (codes "must_not") body)
    (λ lenient. IsBoolean (IsFilter lenient n) body)
    (HasUnsupportedBody (HasUnsupportedFilter n) body)
    error result is told (λ h. inr (inr h)) (λ lenient tree h. (h.2, h.7))
