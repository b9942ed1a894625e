-- JSON values beside what they stand for, and a document that grows by the members of an object.
use Rattle.std.proofs.Common.{◌≡◌, ℕ, List, [], ◌∷◌, ◌++◌, length, map, Option, Some, None}
use Rattle.std.proofs.Common.{String, Global, string_bytes, string_cmp, option_map, refl, ap}
use Rattle.std.proofs.Common.{◌∙◌, eqb, is_some, Less, Greater}
use Rattle.std.proofs.lemmas.Cmp.{nat_list_cmp_total}
use Rattle.std.specs.List.{AllByRecursion}
use Rattle.std.specs.List.Sorted.{IsStrictlySortedBy}
use Rattle.std.specs.Map.{keys_of}
use Rattle.std.specs.Ordering.{ordering_reverse}
use Rattle.agg_values.specs.Names.{Named, name_cmp, put}
use Rattle.serde_json.specs.Data.{Data, null, boolean, number, string, array, object, Members}
use Rattle.serde_json.specs.Find.{as_object}
use Rattle.serde_json.specs.View.{members_view}
use Rattle.serde_json.specs.declared.value.Value.{Value}
use Rattle.serde_json.proofs.Views.{Entry, members_len-members_view}
use Rattle.agg_request.specs.json_values.Json.{has_members}

-- ---- objects

pub object_from : (d : Data) (ms : Members) → Some ms ≡ as_object d → d ≡ object ms
object_from null ms e = cc
object_from (boolean b) ms e = cc
object_from (number n) ms e = cc
object_from (string s) ms e = cc
object_from (array ds) ms e = cc
object_from (object ns) ms e = cc

pub has_members_from : (d : Data) (es : List Entry) (n count : ℕ)
    → Some (members_view es) ≡ as_object d → n ≡ length es → eqb n count ≡ has_members count d
has_members_from d es n count e same = rw (object_from d _ e, members_len-members_view es, same)

-- what is there is there under a function too
pub is_some_map : {A C : Type 0} (f : A → C) (o : Option A) → is_some o ≡ is_some (option_map f o)
is_some_map f None = refl
is_some_map f (Some x) = refl

-- ---- lists that grow at their end

-- what is done, before what is to come
abbrev pub onward : {A : Type 0} → List A → Option (List A) → Option (List A)
onward done later = option_map (λ xs. done ++ xs) later

-- ---- a document from the members of an object

abbrev pub names_in : List Entry → List (List ℕ)
names_in es = map (λ e. string_bytes e.0) es

-- the names of what is done and of what is to come ascend
pub record Ascends {V : Type 0} (done : Named V) (left : List Entry) : Type 0 where
  pub names : IsStrictlySortedBy name_cmp (keys_of done ++ names_in left)

names_above : (k : String Global) (es : List Entry)
    → AllByRecursion (λ y. string_cmp k y ≡ Less) (keys_of es)
    → AllByRecursion (λ y. name_cmp (string_bytes k) y ≡ Less) (names_in es)
names_above k [] h = tt
names_above k (e ∷ es) h = (h.0, names_above k es h.1)

names_ascend : (es : List Entry) → IsStrictlySortedBy string_cmp (keys_of es)
    → IsStrictlySortedBy name_cmp (names_in es)
unfolding IsStrictlySortedBy
names_ascend [] h = tt
names_ascend (e ∷ es) h = (names_above e.0 es h.0, names_ascend es h.1)

pub Ascends-none : {V : Type 0} (es : List Entry) → IsStrictlySortedBy string_cmp (keys_of es)
    → Ascends {V = V} [] es
Ascends-none es h = record { names = names_ascend es h }

below_middle : {V : Type 0} (first : List ℕ) (done : Named V) (name : List ℕ)
    (more : List (List ℕ))
    → AllByRecursion (λ y. name_cmp first y ≡ Less) (keys_of done ++ name ∷ more)
    → name_cmp first name ≡ Less
below_middle first [] name more h = h.0
below_middle first (x ∷ done) name more h = below_middle first done name more h.1

-- a name that is above those before it goes last
put_last : {V : Type 0} (done : Named V) (name : List ℕ) (v : V) (more : List (List ℕ))
    → IsStrictlySortedBy name_cmp (keys_of done ++ name ∷ more)
    → put name v done ≡ done ++ (name, v) ∷ []
unfolding IsStrictlySortedBy
put_last [] name v more h = refl
put_last (first ∷ done) name v more h =
    let above : name_cmp name first.0 ≡ Greater =
    nat_list_cmp_total.antisymm name first.0
    ∙ ap ordering_reverse (below_middle first.0 done name more h.0) in
    rw above (ap (λ xs. first ∷ xs) (put_last done name v more h.1))

names_moved : {V : Type 0} (done : Named V) (name : List ℕ) (v : V) (more : List (List ℕ))
    → keys_of (done ++ (name, v) ∷ []) ++ more ≡ keys_of done ++ name ∷ more
names_moved [] name v more = refl
names_moved (first ∷ done) name v more = ap (λ xs. first.0 ∷ xs) (names_moved done name v more)

-- the name that comes next goes last
pub put_next : {V : Type 0} (done : Named V) (name : String Global) (d : Value)
    (later : List Entry) (v : V) → Ascends done ((name, d) ∷ later)
    → put (string_bytes name) v done ≡ done ++ (string_bytes name, v) ∷ []
put_next done name d later v h = put_last done (string_bytes name) v (names_in later) h.names

-- the next name is done
pub Ascends-more : {V : Type 0} (done : Named V) (name : String Global) (d : Value)
    (later : List Entry) (v : V) → Ascends done ((name, d) ∷ later)
    → Ascends (done ++ (string_bytes name, v) ∷ []) later
Ascends-more done name d later v h =
    record { names = rw (names_moved done (string_bytes name) v (names_in later)) h.names }
