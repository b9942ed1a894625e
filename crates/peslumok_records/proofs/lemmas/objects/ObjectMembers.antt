-- The members of an object, one more at the end.
use Rattle.std.proofs.Common.{◌≡◌, ℕ, false, List, [], ◌∷◌, ◌++◌, refl, sym, ap, ◌∙◌}
use Rattle.std.proofs.Common.{cond}
use Rattle.std.specs.Prelude.{Option, Some, None, option_and_then}
use Rattle.std.specs.Str.{bytes_eq}
use Rattle.std.proofs.lemmas.Slice.Eq.{bytes_eq-Decides}
use Rattle.json.specs.Find.{get, later_or}
use Rattle.json.specs.Json.{Json, Members, member, no_members, object, parse_map}
use Rattle.json.specs.Token.{Token}
use Rattle.peslumok_records.specs.held.Asked.{path_of}
use Rattle.peslumok_records.specs.declared.held.asked.AskedField.{AskedField}
use Rattle.peslumok_records.specs.objects.Objects.{member_at, member_of}
use Rattle.peslumok_records.specs.objects.Tokens.{IsOther}

-- members with these before them
abbrev pub before : List (List ℕ × Json) → Members → Members
before [] rest = rest
before (m ∷ ms) rest = member m.0 m.1 (before ms rest)

-- the object of these members
abbrev pub object_of : List (List ℕ × Json) → Json
object_of ms = object (before ms no_members)

before-member : (ms : List (List ℕ × Json)) (k : List ℕ) (j : Json) (rest : Members)
    → before ms (member k j rest) ≡ before (ms ++ (k, j) ∷ []) rest
before-member [] k j rest = refl
before-member (m ∷ ms) k j rest = ap (member m.0 m.1) (before-member ms k j rest)

pub one_more : (ms : List (List ℕ × Json)) (k : List ℕ) (j : Json)
    (r : Option (Members × List Token))
    → parse_map (before ms) (parse_map (member k j) r)
    ≡ parse_map (before (ms ++ (k, j) ∷ [])) r
one_more ms k j None = refl
one_more ms k j (Some p) = ap (λ ns. Some (ns, p.1)) (before-member ms k j p.0)

pub same_map : (r : Option (Members × List Token)) → r ≡ parse_map (before []) r
same_map None = refl
same_map (Some p) = refl

-- ---- looking a name up

later_or-none : (o : Option Json) → later_or o None ≡ o
later_or-none None = refl
later_or-none (Some j) = refl

later_or-assoc : (a b c : Option Json) → later_or (later_or a b) c ≡ later_or a (later_or b c)
later_or-assoc None b c = refl
later_or-assoc (Some j) b c = refl

get-more : (name : List ℕ) (ms : List (List ℕ × Json)) (k : List ℕ) (j : Json)
    → get name (object_of (ms ++ (k, j) ∷ []))
    ≡ later_or (cond (bytes_eq k name) (Some j) None) (get name (object_of ms))
get-more name [] k j = sym (later_or-none (cond (bytes_eq k name) (Some j) None))
get-more name (m ∷ ms) k j =
    ap (λ o. later_or o (cond (bytes_eq m.0 name) (Some m.1) None)) (get-more name ms k j)
    ∙ later_or-assoc (cond (bytes_eq k name) (Some j) None) (get name (object_of ms))
    (cond (bytes_eq m.0 name) (Some m.1) None)

get-other : (name : List ℕ) (ms : List (List ℕ × Json)) (k : List ℕ) (j : Json)
    → bytes_eq k name ≡ false
    → get name (object_of (ms ++ (k, j) ∷ [])) ≡ get name (object_of ms)
get-other name ms k j apart =
    get-more name ms k j
    ∙ ap (λ b. later_or (cond b (Some j) None) (get name (object_of ms))) apart

get-last : (k : List ℕ) (ms : List (List ℕ × Json)) (j : Json)
    → get k (object_of (ms ++ (k, j) ∷ [])) ≡ Some j
get-last k ms j =
    get-more k ms k j
    ∙ ap (λ b. later_or (cond b (Some j) None) (get k (object_of ms)))
    ((bytes_eq-Decides k k).1 refl)

-- ---- the member of a field

at_path : (first : List ℕ) (rest : List (List ℕ)) (ms : List (List ℕ × Json)) (k : List ℕ)
    (j : Json) → bytes_eq k first ≡ false
    → member_at (first ∷ rest) (object_of (ms ++ (k, j) ∷ []))
    ≡ member_at (first ∷ rest) (object_of ms)
at_path first rest ms k j apart =
    ap (option_and_then (member_at rest)) (get-other first ms k j apart)

-- a member of no field leaves the field's member as it is
pub member_of-other : (field : AskedField) (ms : List (List ℕ × Json)) (k : List ℕ) (j : Json)
    → IsOther k field
    → member_of field (object_of (ms ++ (k, j) ∷ [])) ≡ member_of field (object_of ms)
member_of-other field ms k j other =
    let d = object_of ms in
    let more = object_of (ms ++ (k, j) ∷ []) in
    ap (λ o. later_or o (member_at (path_of field.name) more))
    (get-other field.name ms k j other.whole)
    ∙ ap (λ path. later_or (get field.name d) (member_at path more)) other.path
    ∙ ap (later_or (get field.name d)) (at_path other.first other.rest ms k j other.begins)
    ∙ ap (λ path. later_or (get field.name d) (member_at path d)) (sym other.path)

-- a member of a field's whole name is the field's
pub member_of-last : (field : AskedField) (ms : List (List ℕ × Json)) (k : List ℕ) (j : Json)
    → field.name ≡ k → member_of field (object_of (ms ++ (k, j) ∷ [])) ≡ Some j
member_of-last field ms k j named =
    let more = object_of (ms ++ (k, j) ∷ []) in
    ap (λ n. later_or (get n more) (member_at (path_of field.name) more)) named
    ∙ ap (λ o. later_or o (member_at (path_of field.name) more)) (get-last k ms j)

-- no member is none of a field's whose path isn't empty
pub member_of-none : (field : AskedField) (first : List ℕ) (rest : List (List ℕ))
    → path_of field.name ≡ first ∷ rest → member_of field (object_of []) ≡ None
member_of-none field first rest path =
    ap (λ p. later_or (get field.name (object_of [])) (member_at p (object_of []))) path
