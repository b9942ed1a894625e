-- A field whose values are added to a document after those of the fields behind it.
use Rattle.std.proofs.Common.{◌≡◌, ℕ, List, [], ◌∷◌, ◌++◌, true, false}
use Rattle.std.proofs.Common.{refl, sym, ap, ◌∙◌, inl, inr}
use Rattle.std.specs.Prelude.{◌⊎◌, ⊤, Option, Some, None, option_map}
use Rattle.std.specs.Str.{bytes_eq}
use Rattle.std.proofs.lemmas.Bool.{cases_Bool}
use Rattle.std.proofs.lemmas.Slice.Eq.{bytes_eq-Decides}
use Rattle.agg_segment.specs.storage.Document.{Fields, key_of}
use Rattle.agg_segment.specs.declared.storage.document.FieldValue.{FieldValue}
use Rattle.agg_values.specs.TypedKey.{CompositeIntermediateKey}
use Rattle.agg_segment.specs.Segment.{Gathered, open_document, with_key}
use Rattle.peslumok_records.specs.held.Values.{Gains, joined, named_values, values_of_fields}
use Rattle.peslumok_records.specs.held.Values.{with_values}
use Rattle.peslumok_records.specs.declared.held.asked.AskedField.{AskedField}
use Rattle.peslumok_records.proofs.lemmas.held.Gains.{joined_assoc, some_nil, with_values-append}

-- ---- keys of two fields, in either order

module _ (a b : List ℕ) (k l : CompositeIntermediateKey) (document : Fields)
    (apart : bytes_eq a b ≡ false) where
  at : (n : List ℕ) → (bytes_eq a n ≡ true) ⊎ (bytes_eq a n ≡ false)
      → (bytes_eq b n ≡ true) ⊎ (bytes_eq b n ≡ false)
      → with_key a k (with_key b l document) n ≡ with_key b l (with_key a k document) n
  at n (inl here) (inl there) =
      let same : a ≡ b = (bytes_eq-Decides a n).0 here ∙ sym ((bytes_eq-Decides b n).0 there) in
      let yes : bytes_eq a b ≡ true = (bytes_eq-Decides a b).1 same in
      absurd (cc (apart, yes))
  at n (inl here) (inr there) = rw (here, there) refl
  at n (inr here) (inl there) = rw (here, there) refl
  at n (inr here) (inr there) = rw (here, there) refl

  with_key-swap : with_key a k (with_key b l document) ≡ with_key b l (with_key a k document)
  with_key-swap = λ i n. at n (cases_Bool (bytes_eq a n)) (cases_Bool (bytes_eq b n)) i

-- ---- values of one field, and values of others

-- none of these values is of the field
abbrev pub AreOfOthers : List ℕ → List (List ℕ × FieldValue) → Type 0
AreOfOthers name [] = ⊤
AreOfOthers name (p ∷ ps) = (bytes_eq name p.0 ≡ false) × AreOfOthers name ps

one_first : (name : List ℕ) (key : CompositeIntermediateKey) (ps : List (List ℕ × FieldValue))
    (document : Fields) → AreOfOthers name ps
    → with_key name key (with_values ps document) ≡ with_values ps (with_key name key document)
one_first name key [] document others = refl
one_first name key (p ∷ ps) document others =
    one_first name key ps (with_key p.0 (key_of p.1) document) others.1
    ∙ ap (with_values ps) (with_key-swap name p.0 key (key_of p.1) document others.0)

all_first : (name : List ℕ) (values : List FieldValue) (ps : List (List ℕ × FieldValue))
    (document : Fields) → AreOfOthers name ps
    → with_values (named_values name values) (with_values ps document)
    ≡ with_values ps (with_values (named_values name values) document)
all_first name [] ps document others = refl
all_first name (v ∷ vs) ps document others =
    ap (with_values (named_values name vs)) (one_first name (key_of v) ps document others)
    ∙ all_first name vs ps (with_key name (key_of v) document) others

-- ---- the parts of lists that are there

pub joined-parts : {A : Type 0} (a b : Option (List A)) (all : List A) → joined a b ≡ Some all
    → (xs : List A) × (ys : List A) × (a ≡ Some xs) × (b ≡ Some ys) × (all ≡ xs ++ ys)
joined-parts None b all is = absurd (cc)
joined-parts (Some xs) None all is = absurd (cc)
joined-parts (Some xs) (Some ys) all is = (xs, ys, refl, refl, sym (some_is is))
  where
    some_is : {X : Type 0} {x y : X} → Some x ≡ Some y → x ≡ y
    some_is e = cc e

named-some : (name : List ℕ) (o : Option (List FieldValue)) (all : List (List ℕ × FieldValue))
    → option_map (named_values name) o ≡ Some all
    → (values : List FieldValue) × (all ≡ named_values name values)
named-some name None all is = absurd (cc)
named-some name (Some values) all is = (values, cc is)

of_others-append : (name : List ℕ) (ps qs : List (List ℕ × FieldValue))
    → AreOfOthers name ps → AreOfOthers name qs → AreOfOthers name (ps ++ qs)
of_others-append name [] qs first next = next
of_others-append name (p ∷ ps) qs first next =
    (first.0, of_others-append name ps qs first.1 next)

named_others : (name other : List ℕ) (values : List FieldValue) → bytes_eq name other ≡ false
    → AreOfOthers name (named_values other values)
named_others name other [] apart = tt
named_others name other (v ∷ vs) apart = (apart, named_others name other vs apart)

-- each of these fields has another name
abbrev pub AreOthers : List ℕ → List AskedField → Type 0
AreOthers name [] = ⊤
AreOthers name (field ∷ fields) = (bytes_eq name field.name ≡ false) × AreOthers name fields

-- the fields have the same values
abbrev pub AreSame : (AskedField → Option (List FieldValue))
    → (AskedField → Option (List FieldValue)) → List AskedField → Type 0
AreSame F G [] = ⊤
AreSame F G (field ∷ fields) = (F field ≡ G field) × AreSame F G fields

values_of_others : (values : AskedField → Option (List FieldValue)) (name : List ℕ)
    (fields : List AskedField) (all : List (List ℕ × FieldValue))
    → values_of_fields values fields ≡ Some all → AreOthers name fields → AreOfOthers name all
values_of_others values name [] all is others =
    let none : all ≡ [] = cc is in rw none tt
values_of_others values name (field ∷ fields) all is others =
    let (xs, ys, first, next, whole) = joined-parts
    (option_map (named_values field.name) (values field)) (values_of_fields values fields) all is in
    let (vs, named) = named-some field.name (values field) xs first in
    rw (whole, named) (of_others-append name (named_values field.name vs) ys
    (named_others name field.name vs others.0)
    (values_of_others values name fields ys next others.1))

pub same_values : (F G : AskedField → Option (List FieldValue)) (fields : List AskedField)
    → AreSame F G fields → values_of_fields F fields ≡ values_of_fields G fields
same_values F G [] same = refl
same_values F G (field ∷ fields) same =
    ap (λ o. joined (option_map (named_values field.name) o) (values_of_fields F fields)) same.0
    ∙ ap (joined (option_map (named_values field.name) (G field)))
    (same_values F G fields same.1)

values_of_fields-append : (F : AskedField → Option (List FieldValue)) (xs ys : List AskedField)
    → values_of_fields F (xs ++ ys) ≡ joined (values_of_fields F xs) (values_of_fields F ys)
values_of_fields-append F [] ys = sym (some_nil (values_of_fields F ys))
values_of_fields-append F (x ∷ xs) ys =
    ap (joined (option_map (named_values x.name) (F x))) (values_of_fields-append F xs ys)
    ∙ sym (joined_assoc (option_map (named_values x.name) (F x)) (values_of_fields F xs)
    (values_of_fields F ys))

-- ---- one field that had no values gains some, and the others stay

pub gains_between : (F G : AskedField → Option (List FieldValue)) (xs : List AskedField)
    (field : AskedField) (ys : List AskedField) (old now new : Gathered)
    → AreSame F G xs → AreSame F G ys → AreOthers field.name ys → F field ≡ Some []
    → Gains (values_of_fields F (xs ++ field ∷ ys)) old now
    → Gains (option_map (named_values field.name) (G field)) now new
    → Gains (values_of_fields G (xs ++ field ∷ ys)) old new
gains_between F G xs field ys old now new before behind others none gained gains =
    let name = field.name in
    let split = values_of_fields-append F xs (field ∷ ys)
    ∙ ap (λ o. joined (values_of_fields F xs) (joined (option_map (named_values name) o)
    (values_of_fields F ys))) none
    ∙ ap (joined (values_of_fields F xs)) (some_nil (values_of_fields F ys)) in
    let (front, back, first, last, whole) = joined-parts (values_of_fields F xs)
    (values_of_fields F ys) gained.given (sym split ∙ gained.read) in
    let (vs, named) = named-some name (G field) gains.given gains.read in
    let start = open_document old in
    record {
      given = front ++ (gains.given ++ back);
      read = values_of_fields-append G xs (field ∷ ys)
          ∙ ap (λ o. joined o (values_of_fields G (field ∷ ys)))
          (sym (same_values F G xs before) ∙ first)
          ∙ ap (λ o. joined (Some front) (joined o (values_of_fields G ys))) gains.read
          ∙ ap (λ o. joined (Some front) (joined (Some gains.given) o))
          (sym (same_values F G ys behind) ∙ last);
      added = gains.added
          ∙ ap (with_values gains.given) (gained.added ∙ ap (λ l. with_values l start) whole
          ∙ with_values-append front back start)
          ∙ ap (λ l. with_values l (with_values back (with_values front start))) named
          ∙ all_first name vs back (with_values front start)
          (values_of_others F name ys back last others)
          ∙ ap (λ l. with_values back (with_values l (with_values front start))) (sym named)
          ∙ sym (with_values-append gains.given back (with_values front start))
          ∙ sym (with_values-append front (gains.given ++ back) start);
    }
