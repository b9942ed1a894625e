-- A document, from the members of an object one by one.
use Rattle.std.proofs.Common.{◌≡◌, ℕ, List, [], ◌∷◌, ◌++◌, map, Bool, true, false, Option, Some}
use Rattle.std.proofs.Common.{None, String, Global, string_bytes, string_cmp, refl, sym, ap, ◌∙◌}
use Rattle.std.proofs.Common.{subst, bytes_eq, Less, Equal, filter, append-nil}
use Rattle.std.proofs.lemmas.Cmp.{nat_list_cmp_total, tied_itself}
use Rattle.std.proofs.lemmas.List.Elements.{filter-append}
use Rattle.std.proofs.lemmas.Slice.Eq.{bytes_eq-Decides}
use Rattle.std.specs.Cmp.Lexicographic.{slice_cmp}
use Rattle.std.specs.List.{AllByRecursion}
use Rattle.std.specs.List.Sorted.{IsStrictlySortedBy}
use Rattle.std.specs.Map.{keys_of}
use Rattle.std.specs.Ordering.{nat_cmp}
use Rattle.serde_json.specs.Data.{Data, object}
use Rattle.serde_json.specs.Find.{get_member}
use Rattle.serde_json.specs.View.{view, members_view}
use Rattle.serde_json.specs.declared.value.Value.{Value}
use Rattle.serde_json.proofs.Views.{Entry, member_here, member_later}
use Rattle.agg_segment.specs.storage.Document.{Fields, by_class, key_of, meaning, values_in}
use Rattle.agg_segment.specs.declared.storage.document.FieldValue.{FieldValue}
use Rattle.agg_pages.specs.document_json.DocumentLine.{HaveKeys, IsDocument, IsField, field_values}
use Rattle.agg_pages.specs.document_json.Fields.{AddsValues, named_values}
use Rattle.agg_values.specs.Nothing.{NoneIs}
use Rattle.agg_pages.proofs.lemmas.document_json.Documents.{none_is_some}

-- the values that a document has, in the order in which they were added
abbrev pub Stored : Type 0
Stored = List (List ℕ × FieldValue)

-- ---- names

less_is_other : (a b : List ℕ) → slice_cmp nat_cmp a b ≡ Less → a ≡ b → ⊥
less_is_other a b less same =
    let tied : slice_cmp nat_cmp a b ≡ Equal =
    subst (λ c. slice_cmp nat_cmp a c ≡ Equal) same (tied_itself nat_list_cmp_total a) in
    cc (less, tied)

-- a name below all these is none of them
not_among : (name : String Global) (es : List Entry)
    → AllByRecursion (λ y. string_cmp name y ≡ Less) (keys_of es)
    → get_member (string_bytes name) (members_view es) ≡ None
not_among name [] h = refl
not_among name (e ∷ es) h =
    member_later (string_bytes name) e es (less_is_other _ _ h.0) ∙ not_among name es h.1

-- ---- values put after a document

named_here : (name : List ℕ) (values : List FieldValue)
    → map (λ p. p.1) (filter (λ p. bytes_eq name p.0) (named_values name values)) ≡ values
named_here name [] = refl
named_here name (v ∷ values) =
    rw ((bytes_eq-Decides name name).1 refl) (ap (λ vs. v ∷ vs) (named_here name values))

named_elsewhere : (field name : List ℕ) (values : List FieldValue) → bytes_eq field name ≡ false
    → filter (λ p. bytes_eq field p.0) (named_values name values) ≡ []
named_elsewhere field name [] h = refl
named_elsewhere field name (v ∷ values) h = rw h (named_elsewhere field name values h)

map_both : {A B : Type 0} (f : A → B) (xs ys : List A) → map f (xs ++ ys) ≡ map f xs ++ map f ys
map_both f [] ys = refl
map_both f (x ∷ xs) ys = ap (λ l. f x ∷ l) (map_both f xs ys)

behind_here : (name : List ℕ) (document : Stored) (values : List FieldValue)
    → values_in document name ≡ [] → values_in (document ++ named_values name values) name ≡ values
behind_here name document values none =
    ap (map (λ p. p.1)) (filter-append (λ p. bytes_eq name p.0) document (named_values name values))
    ∙ map_both (λ p. p.1) (filter (λ p. bytes_eq name p.0) document) _
    ∙ ap (λ vs. vs ++ map (λ p. p.1) (filter (λ p. bytes_eq name p.0) (named_values name values)))
    none ∙ named_here name values

behind_elsewhere : (field name : List ℕ) (document : Stored) (values : List FieldValue)
    → bytes_eq field name ≡ false
    → values_in (document ++ named_values name values) field ≡ values_in document field
behind_elsewhere field name document values other =
    ap (map (λ p. p.1)) (filter-append (λ p. bytes_eq field p.0) document (named_values name values)
    ∙ ap (λ vs. filter (λ p. bytes_eq field p.0) document ++ vs)
    (named_elsewhere field name values other)
    ∙ append-nil (filter (λ p. bytes_eq field p.0) document))

-- ---- the members, one by one

-- the members before those that are left were put into the document
pub record HasRead (all : List Entry) (document : Stored) (left : List Entry) : Type 0 where
  pub sorted : IsStrictlySortedBy string_cmp (keys_of left)
  pub ahead : (field : List ℕ) (d : Data) → get_member field (members_view left) ≡ Some d
      → (get_member field (members_view all) ≡ Some d) × (values_in document field ≡ [])
  pub behind : (field : List ℕ) → get_member field (members_view left) ≡ None
      → IsField (get_member field (members_view all)) (meaning document field)

none_yet : (o : Option Data) → o ≡ None → IsField o (by_class [])
unfolding by_class
none_yet None e = refl
none_yet (Some d) e = none_is_some d (sym e)

pub HasRead-none : (all : List Entry) → IsStrictlySortedBy string_cmp (keys_of all)
    → HasRead all [] all
HasRead-none all sorted = record {
  sorted = sorted;
  ahead = λ field d is. (is, refl);
  behind = λ field none. none_yet (get_member field (members_view all)) none;
}

-- the member that comes next is the object's of its name
first_ahead : (all : List Entry) (document : Stored) (left : List Entry) (name : String Global)
    (d : Value) (later : List Entry) → HasRead all document left → left ≡ (name, d) ∷ later
    → (get_member (string_bytes name) (members_view all) ≡ Some (view d))
    × (values_in document (string_bytes name) ≡ [])
first_ahead all document left name d later h is =
    h.ahead (string_bytes name) (view d)
    (ap (λ es. get_member (string_bytes name) (members_view es)) is
    ∙ member_here (string_bytes name) (name, d) later refl)

-- where it has no keys, the object is apart document
pub HasRead-refused : (all : List Entry) (document : Stored) (left : List Entry)
    (name : String Global) (d : Value) (later : List Entry) → HasRead all document left
    → left ≡ (name, d) ∷ later → NoneIs (HaveKeys (field_values (view d))) → (fields : Fields)
    → ¬ IsDocument (object (members_view all)) fields
HasRead-refused all document left name d later h is none fields stands =
    let here = (first_ahead all document left name d later h is).0 in
    let (given, has, same) = subst (λ o. IsField o (fields (string_bytes name))) here
    (stands.fields (string_bytes name)) in
    none given has

-- ---- one member more

field_here : (o : Option Data) (d : Data) (values : List FieldValue) → o ≡ Some d
    → HaveKeys (field_values d) (map key_of values) → IsField o (by_class (map key_of values))
field_here o d values is keys =
    subst (λ m. IsField m (by_class (map key_of values))) (sym is) (map key_of values, keys, refl)

module _ (all : List Entry) (document new : Stored) (left : List Entry) (name : String Global)
    (d : Value) (later : List Entry) (h : HasRead all document left) (is : left ≡ (name, d) ∷ later)
    (adds : AddsValues (string_bytes name) (field_values (view d)) document new) where
  sorted_here : IsStrictlySortedBy string_cmp (keys_of ((name, d) ∷ later))
  sorted_here = subst (λ (es : List Entry). IsStrictlySortedBy string_cmp (keys_of es)) is h.sorted

  later_sorted : IsStrictlySortedBy string_cmp (keys_of later)
  unfolding IsStrictlySortedBy
  later_sorted = sorted_here.1

  not_later : get_member (string_bytes name) (members_view later) ≡ None
  unfolding IsStrictlySortedBy
  not_later = not_among name later sorted_here.0

  elsewhere : (field : List ℕ) → (field ≡ string_bytes name → ⊥)
      → get_member field (members_view left) ≡ get_member field (members_view later)
  elsewhere field other =
      ap (λ es. get_member field (members_view es)) is
      ∙ member_later field (name, d) later other

  differ : (field : List ℕ) → bytes_eq field (string_bytes name) ≡ false
      → field ≡ string_bytes name → ⊥
  differ field apart same =
      let yes = (bytes_eq-Decides field (string_bytes name)).1 same in cc (apart, yes)

  unchanged : (field : List ℕ) → bytes_eq field (string_bytes name) ≡ false
      → values_in new field ≡ values_in document field
  unchanged field apart = ap (λ s. values_in s field) adds.added
      ∙ behind_elsewhere field (string_bytes name) document adds.values apart

  ahead_by : (field : List ℕ) (e : Data) (b : Bool) → bytes_eq field (string_bytes name) ≡ b
      → get_member field (members_view later) ≡ Some e
      → (get_member field (members_view all) ≡ Some e) × (values_in new field ≡ [])
  ahead_by field e true same found =
      let equal = (bytes_eq-Decides field (string_bytes name)).0 same in
      none_is_some e (sym not_later
      ∙ ap (λ f. get_member f (members_view later)) (sym equal) ∙ found)
  ahead_by field e false apart found =
      let before = h.ahead field e (elsewhere field (differ field apart) ∙ found) in
      (before.0, unchanged field apart ∙ before.1)

  behind_by : (field : List ℕ) (b : Bool) → bytes_eq field (string_bytes name) ≡ b
      → get_member field (members_view later) ≡ None
      → IsField (get_member field (members_view all)) (meaning new field)
  behind_by field true same none =
      let equal : string_bytes name ≡ field =
      sym ((bytes_eq-Decides field (string_bytes name)).0 same) in
      let first = first_ahead all document left name d later h is in
      let values : values_in new (string_bytes name) ≡ adds.values =
      ap (λ s. values_in s (string_bytes name)) adds.added
      ∙ behind_here (string_bytes name) document adds.values first.1 in
      subst (λ f. IsField (get_member f (members_view all)) (meaning new f)) equal
      (subst (λ vs. IsField (get_member (string_bytes name) (members_view all))
      (by_class (map key_of vs))) (sym values)
      (field_here _ (view d) adds.values first.0 adds.keys))
  behind_by field false apart none =
      subst (λ vs. IsField (get_member field (members_view all)) (by_class (map key_of vs)))
      (sym (unchanged field apart))
      (h.behind field (elsewhere field (differ field apart) ∙ none))

  pub HasRead-more : HasRead all new later
  HasRead-more = record {
    sorted = later_sorted;
    ahead = λ field e found. ahead_by field e _ refl found;
    behind = λ field none. behind_by field _ refl none;
  }

-- all members were put into the document
pub HasRead-all : (all : List Entry) (document : Stored) (left : List Entry)
    → HasRead all document left → left ≡ []
    → IsDocument (object (members_view all)) (meaning document)
HasRead-all all document left h is = record {
  members = refl;
  fields = λ field. h.behind field (ap (λ es. get_member field (members_view es)) is);
}
