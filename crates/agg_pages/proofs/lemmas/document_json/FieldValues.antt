-- The values of a field, put into a document one by one.
use Rattle.std.proofs.Common.{◌≡◌, ◌<◌, ℕ, ◌+◌, List, [], ◌∷◌, ◌++◌, length, take, drop}
use Rattle.std.proofs.Common.{get_or, Bool, true, false, cond, refl, sym, ap, ◌∙◌, subst}
use Rattle.std.proofs.Common.{append-nil, append_assoc}
use Rattle.std.proofs.lemmas.List.{take_more, take-append-drop}
use Rattle.std.specs.Option.{is_some}
use Rattle.serde_json.specs.Data.{Data}
use Rattle.serde_json.specs.Find.{as_null}
use Rattle.serde_json.specs.View.{items_view, view}
use Rattle.serde_json.specs.declared.value.Value.{Value}
use Rattle.agg_values.specs.TypedKey.{CompositeIntermediateKey}
use Rattle.agg_segment.specs.storage.Document.{key_of}
use Rattle.agg_segment.specs.declared.storage.document.FieldValue.{FieldValue}
use Rattle.agg_pages.proofs.lemmas.document_json.Beside.{AllZip-append, AllZip-parts, map-append}
use Rattle.agg_pages.specs.document_json.DocumentLine.{HasKey, HaveKeys, values_among}
use Rattle.agg_pages.specs.document_json.Fields.{AddsValues, named_values}
use Rattle.agg_values.specs.Nothing.{NoneIs}

-- the values among these
abbrev pub among : List Value → List Data
among items = values_among (items_view items)

-- ---- what was put into a document

pub AddsValues-none : (field : List ℕ) (document : List (List ℕ × FieldValue))
    → AddsValues field [] document document
AddsValues-none field document = record {
  values = [];
  keys = tt;
  added = sym (append-nil document);
}

pub AddsValues-then : (field : List ℕ) (written more : List Data)
    (old now new : List (List ℕ × FieldValue)) → AddsValues field written old now
    → AddsValues field more now new → AddsValues field (written ++ more) old new
AddsValues-then field written more old now new first next = record {
  values = first.values ++ next.values;
  keys = subst (HaveKeys (written ++ more)) (sym (map-append key_of first.values next.values))
      (AllZip-append HasKey written more _ _ first.keys next.keys);
  added = next.added ∙ ap (λ l. l ++ named_values field next.values) first.added
      ∙ append_assoc old (named_values field first.values) (named_values field next.values)
      ∙ ap (λ l. old ++ l)
      (sym (map-append (λ value. (field, value)) first.values next.values));
}

-- ---- the values among items

among_first : (b : Bool) (d : Data) (xs ys : List Data)
    → cond b (xs ++ ys) (d ∷ (xs ++ ys)) ≡ cond b xs (d ∷ xs) ++ ys
among_first true d xs ys = refl
among_first false d xs ys = refl

pub among-append : (xs ys : List Value) → among (xs ++ ys) ≡ among xs ++ among ys
among-append [] ys = refl
among-append (x ∷ xs) ys =
    ap (λ l. cond (is_some (as_null (view x))) l (view x ∷ l)) (among-append xs ys)
    ∙ among_first (is_some (as_null (view x))) (view x) (among xs) (among ys)

among_more : (items : List Value) (at : ℕ) (x : Value) → at < length items
    → x ≡ get_or items at x
    → among (take (at + 1) items) ≡ among (take at items) ++ among (x ∷ [])
among_more items at x within is =
    ap among (take_more items at x within
    ∙ ap (λ v. take at items ++ v ∷ []) (sym is)) ∙ among-append (take at items) (x ∷ [])

-- one item more was put into the document
pub adds_more : (field : List ℕ) (items : List Value) (at : ℕ) (x : Value)
    (old now new : List (List ℕ × FieldValue)) → at < length items → x ≡ get_or items at x
    → AddsValues field (among (take at items)) old now → AddsValues field (among (x ∷ [])) now new
    → AddsValues field (among (take (at + 1) items)) old new
adds_more field items at x old now new within is first next =
    subst (λ written. AddsValues field written old new) (sym (among_more items at x within is))
    (AddsValues-then field (among (take at items)) (among (x ∷ [])) old now new first next)

-- where an item is no value, not all are
pub no_keys_at : (items : List Value) (at : ℕ) (x : Value) → at < length items
    → x ≡ get_or items at x → NoneIs (HaveKeys (among (x ∷ []))) → NoneIs (HaveKeys (among items))
no_keys_at items at x within is none keys has =
    let cut : among items ≡ among (take (at + 1) items) ++ among (drop (at + 1) items) =
    ap among (sym (take-append-drop (at + 1) items))
    ∙ among-append (take (at + 1) items) (drop (at + 1) items) in
    let upto = AllZip-parts HasKey (among (take (at + 1) items)) (among (drop (at + 1) items)) keys
    (subst (λ l. HaveKeys l keys) cut has) in
    let last = AllZip-parts HasKey (among (take at items)) (among (x ∷ [])) upto.0
    (subst (λ l. HaveKeys l upto.0) (among_more items at x within is) upto.3) in
    none last.1 last.4

-- ---- one item

item_is : (v : Value) → is_some (as_null (view v)) ≡ false → among (v ∷ []) ≡ view v ∷ []
item_is v h = rw h

pub adds_item : (field : List ℕ) (v : Value) (value : FieldValue)
    (old new : List (List ℕ × FieldValue)) → is_some (as_null (view v)) ≡ false
    → HasKey (view v) (key_of value) → new ≡ old ++ (field, value) ∷ []
    → AddsValues field (among (v ∷ [])) old new
adds_item field v value old new given has is =
    subst (λ written. AddsValues field written old new) (sym (item_is v given))
    (record { values = value ∷ []; keys = (has, tt); added = is })

pub no_keys_item : (v : Value) → is_some (as_null (view v)) ≡ false
    → NoneIs (HasKey (view v)) → NoneIs (HaveKeys (among (v ∷ [])))
no_keys_item v given none keys has =
    one_left keys (subst (λ written. HaveKeys written keys) (item_is v given) has)
  where
    one_left : (keys : List CompositeIntermediateKey) → HaveKeys (view v ∷ []) keys → ⊥
    one_left [] zips = zips
    one_left (key ∷ keys) zips = none key zips.0
