-- A body is that of one composite at most.
use Rattle.std.proofs.Common.{◌≡◌, ℕ, List, [], ◌∷◌, Bool, false}
use Rattle.std.proofs.Common.{Option, Some, None, refl, sym, ap, ◌∙◌, subst, codes, arith, get_or}
use Rattle.serde_json.specs.Data.{Data, Members, no_members, member}
use Rattle.serde_json.specs.Find.{as_str, get}
use Rattle.agg_values.proofs.KeyTexts.{IsKeyText-unique}
use Rattle.agg_values.specs.KeyText.{IsKeyText}
use Rattle.agg_values.specs.Names.{Named}
use Rattle.agg_values.specs.declared.after_key.AfterKey.{AfterKey}
use Rattle.agg_values.specs.declared.order.Order.{Order}
use Rattle.agg_values.specs.declared.order.Order.TheVariants.{Asc, Desc}
use Rattle.agg_values.specs.declared.order.MissingOrder.{MissingOrder}
use Rattle.agg_values.specs.declared.order.MissingOrder.TheVariants.{Default, First, Last}
use Rattle.agg_request.specs.reading.CompositeJson.{AreIntervals, AreSources, IsAfter}
use Rattle.agg_request.specs.reading.CompositeJson.{IsCompositeJson, IsFlag, IsKeyJson}
use Rattle.agg_request.specs.reading.CompositeJson.{IsSharedBody, IsSourceJson, IsSourceOfKind}
use Rattle.agg_request.specs.reading.CompositeJson.{IsTextAt, IsWordOr, SaysValue}
use Rattle.agg_request.specs.reading.CompositeJson.{missing_order_word, order_word, unit_word}
use Rattle.agg_request.specs.json_values.Json.{EachIs, EachNamedIs, IsGiven, IsWholeAt, only_member}
use Rattle.agg_request.specs.json_values.Json.{only_named, present, small_number, whole_number}
use Rattle.agg_request_tree.specs.Source.{field_of, min_key_of, missing_bucket_of}
use Rattle.agg_request_tree.specs.Source.{missing_order_of, name_of, order_of}
use Rattle.agg_request_tree.specs.declared.aggregation.CompositeAggregation.{CompositeAggregation}
use Rattle.agg_request_tree.specs.declared.source.CompositeAggregationSource as any_source
use any_source.{CompositeAggregationSource}
use any_source.TheVariants.{Terms, Histogram, DateHistogram}
use Rattle.agg_request_tree.specs.declared.source.TermCompositeAggregationSource as term
use term.{TermCompositeAggregationSource as Term}
use Rattle.agg_request_tree.specs.declared.source.HistogramCompositeAggregationSource as numbers
use numbers.{HistogramCompositeAggregationSource as Numbers}
use Rattle.agg_request_tree.specs.declared.source.DateHistogramCompositeAggregationSource as dates
use dates.{DateHistogramCompositeAggregationSource as Dates}
use Rattle.agg_request.proofs.lemmas.reading.CompositeSources.{unit_word-one}
use Rattle.agg_request.proofs.lemmas.json_values.ValueTexts.{said_strictly}
use Rattle.agg_pages.proofs.lemmas.document_json.Documents.{same_value}
use Rattle.agg_pages.proofs.lemmas.input_text.Queries.{EachIs-unique}

-- ---- a name, and the body under the one word inside

pub named_body-unique : (word : List ℕ) (d : Data) (name other : List ℕ)
    (kind kind_too body body_too : Data) → only_member d ≡ Some (name, kind)
    → only_member d ≡ Some (other, kind_too) → only_named word kind ≡ Some body
    → only_named word kind_too ≡ Some body_too → (name ≡ other) × (body ≡ body_too)
named_body-unique word d name other kind kind_too body body_too only only_too is is_too =
    let same : (name, kind) ≡ (other, kind_too) =
    same_value (name, kind) (other, kind_too) (sym only ∙ only_too) in
    let kinds : kind ≡ kind_too = ap (λ (m : List ℕ × Data). m.1) same in (
      ap (λ (m : List ℕ × Data). m.0) same,
      same_value body body_too (sym is ∙ ap (only_named word) kinds ∙ is_too),
    )

-- ---- words

by_letter : {A : Type 0} (text other : List ℕ) → text ≡ other
    → (get_or text 0 0 ≡ get_or other 0 0 → ⊥) → A
by_letter text other same apart = absurd (apart (ap (λ l. get_or l 0 0) same))

order_word-one : (a b : Order) → order_word a ≡ order_word b → a ≡ b
order_word-one Asc Asc e = refl
order_word-one Asc Desc e = by_letter (codes "asc") (codes "desc") e (λ l. omega (arith, l))
order_word-one Desc Asc e = by_letter (codes "desc") (codes "asc") e (λ l. omega (arith, l))
order_word-one Desc Desc e = refl

missing_order_word-one : (a b : MissingOrder) → missing_order_word a ≡ missing_order_word b → a ≡ b
missing_order_word-one Default Default e = refl
missing_order_word-one Default First e =
    by_letter (codes "default") (codes "first") e (λ l. omega (arith, l))
missing_order_word-one Default Last e =
    by_letter (codes "default") (codes "last") e (λ l. omega (arith, l))
missing_order_word-one First Default e =
    by_letter (codes "first") (codes "default") e (λ l. omega (arith, l))
missing_order_word-one First First e = refl
missing_order_word-one First Last e =
    by_letter (codes "first") (codes "last") e (λ l. omega (arith, l))
missing_order_word-one Last Default e =
    by_letter (codes "last") (codes "default") e (λ l. omega (arith, l))
missing_order_word-one Last First e =
    by_letter (codes "last") (codes "first") e (λ l. omega (arith, l))
missing_order_word-one Last Last e = refl

IsWordOr-unique : {A : Type 0} (given : A) (word : A → List ℕ)
    → ((a b : A) → word a ≡ word b → a ≡ b) → (o : Option Data) (a b : A)
    → IsWordOr given word o a → IsWordOr given word o b → a ≡ b
IsWordOr-unique given word one None a b h k = h ∙ sym k
IsWordOr-unique given word one (Some d) a b h k =
    one a b (same_value (word a) (word b) (sym h ∙ k))

IsFlag-unique : (o : Option Data) (a b : Bool) → IsFlag o a → IsFlag o b → a ≡ b
IsFlag-unique None a b h k = h ∙ sym k
IsFlag-unique (Some d) a b h k = same_value a b (sym h ∙ k)

-- ---- values that are given

-- one value is given at most
pub IsGiven-unique : {A : Type 0} (Is : Data → A → Type 0)
    → ((d : Data) (a b : A) → Is d a → Is d b → a ≡ b) → (o : Option Data) (a b : Option A)
    → IsGiven Is o a → IsGiven Is o b → a ≡ b
IsGiven-unique Is one None None None h k = refl
IsGiven-unique Is one None None (Some b) h k = absurd k
IsGiven-unique Is one None (Some a) b h k = absurd h
IsGiven-unique Is one (Some d) None b h k = absurd h
IsGiven-unique Is one (Some d) (Some a) None h k = absurd k
IsGiven-unique Is one (Some d) (Some a) (Some b) h k = ap Some (one d a b h k)

IsTextAt-unique : (name : List ℕ) (body : Data) (a b : Option (List ℕ)) → IsTextAt name body a
    → IsTextAt name body b → a ≡ b
IsTextAt-unique name body =
    IsGiven-unique (λ d text. as_str d ≡ Some text) (λ d s t h k. same_value s t (sym h ∙ k))
    (present name body)

IsKeyJson-unique : (d : Data) (a b : AfterKey) → IsKeyJson false d a → IsKeyJson false d b
    → a ≡ b
IsKeyJson-unique d a b (text, is, says) (text_too, is_too, says_too) =
    let same : text_too ≡ text = same_value text_too text (sym is_too ∙ is) in
    let there : IsKeyText text b.0 =
    subst (λ t. IsKeyText t b.0) same (said_strictly text_too b.0 says_too) in
    let keys : a.0 ≡ b.0 = IsKeyText-unique text a.0 b.0 (said_strictly text a.0 says) there in
    λ i. record { 0 = keys i }

SaysValue-unique : (d : Data) (a b : AfterKey) → SaysValue false d a → SaysValue false d b → a ≡ b
SaysValue-unique d a b h k = IsKeyJson-unique d a b (h.0, h.1, h.2) (k.0, k.1, k.2)

-- ---- sources

-- what two sources of one body share is the same
record SameShared (a b : CompositeAggregationSource) : Type 0 where
  named : name_of a ≡ name_of b
  field : field_of a ≡ field_of b
  order : order_of a ≡ order_of b
  missing_bucket : missing_bucket_of a ≡ missing_bucket_of b
  missing_order : missing_order_of a ≡ missing_order_of b
  min : min_key_of a ≡ min_key_of b

shared-unique : (name : List ℕ) (body : Data) (a b : CompositeAggregationSource)
    → IsSharedBody false name body a → IsSharedBody false name body b → SameShared a b
shared-unique name body a b h k = record {
  named = h.named ∙ sym k.named;
  field = same_value (field_of a) (field_of b) (sym h.field ∙ k.field);
  order = IsWordOr-unique Asc order_word order_word-one (get (codes "order") body) (order_of a)
      (order_of b) h.order k.order;
  missing_bucket = IsFlag-unique (get (codes "missing_bucket") body) (missing_bucket_of a)
      (missing_bucket_of b) h.missing_bucket k.missing_bucket;
  missing_order = IsWordOr-unique Default missing_order_word missing_order_word-one
      (get (codes "missing_order") body) (missing_order_of a) (missing_order_of b) h.missing_order
      k.missing_order;
  min = IsGiven-unique (SaysValue false) SaysValue-unique (present (codes "min") body)
      (min_key_of a) (min_key_of b) h.min k.min;
}

terms-unique : (a b : Term) → SameShared (Terms a) (Terms b) → a ≡ b
terms-unique a b same = λ i. record {
  name = same.named i;
  field = same.field i;
  order = same.order i;
  missing_bucket = same.missing_bucket i;
  missing_order = same.missing_order i;
  min = same.min i;
}

-- the numbers that stand at one member are the same
IsWholeAt-unique : {A : Type 0} (taken : Data → Option A) (name : List ℕ) (body : Data) (a b : A)
    → IsWholeAt taken name false body a → IsWholeAt taken name false body b → a ≡ b
IsWholeAt-unique taken name body a b (d, is, h) (d_too, is_too, k) =
    let same : d_too ≡ d = same_value d_too d (sym is_too ∙ is) in
    same_value a b (sym h ∙ sym (ap taken same) ∙ k)

numbers-unique : (a b : Numbers) → SameShared (Histogram a) (Histogram b)
    → a.interval ≡ b.interval → a ≡ b
numbers-unique a b same intervals = λ i. record {
  name = same.named i;
  field = same.field i;
  interval = intervals i;
  order = same.order i;
  missing_bucket = same.missing_bucket i;
  missing_order = same.missing_order i;
  min = same.min i;
}

dates-unique : (body : Data) (a b : Dates) → SameShared (DateHistogram a) (DateHistogram b)
    → AreIntervals body a → AreIntervals body b → a ≡ b
dates-unique body a b same (fixed, unit, offset) (fixed_too, unit_too, offset_too) =
    let texts : a.fixed_interval ≡ b.fixed_interval =
    IsTextAt-unique (codes "fixed_interval") body a.fixed_interval b.fixed_interval fixed fixed_too
    in
    let units : a.calendar_interval ≡ b.calendar_interval =
    IsGiven-unique (λ d unit. as_str d ≡ Some (unit_word unit))
    (λ d u v h k. unit_word-one u v (same_value (unit_word u) (unit_word v) (sym h ∙ k)))
    (present (codes "calendar_interval") body) a.calendar_interval b.calendar_interval unit
    unit_too in
    let offsets : a.offset ≡ b.offset =
    IsTextAt-unique (codes "offset") body a.offset b.offset offset offset_too in
    λ i. record {
      name = same.named i;
      field = same.field i;
      fixed_interval = texts i;
      calendar_interval = units i;
      offset = offsets i;
      order = same.order i;
      missing_bucket = same.missing_bucket i;
      missing_order = same.missing_order i;
      min = same.min i;
    }

IsSourceOfKind-unique : (name kind : List ℕ) (body : Data) (a b : CompositeAggregationSource)
    → IsSourceOfKind false name kind body a → IsSourceOfKind false name kind body b → a ≡ b
IsSourceOfKind-unique name kind body (Terms a) (Terms b) h k =
    ap Terms (terms-unique a b (shared-unique name body (Terms a) (Terms b) h.1.0 k.1.0))
IsSourceOfKind-unique name kind body (Terms a) (Histogram b) h k =
    by_letter (codes "terms") (codes "histogram") (sym h.0 ∙ k.0) (λ l. omega (arith, l))
IsSourceOfKind-unique name kind body (Terms a) (DateHistogram b) h k =
    by_letter (codes "terms") (codes "date_histogram") (sym h.0 ∙ k.0) (λ l. omega (arith, l))
IsSourceOfKind-unique name kind body (Histogram a) (Terms b) h k =
    by_letter (codes "histogram") (codes "terms") (sym h.0 ∙ k.0) (λ l. omega (arith, l))
IsSourceOfKind-unique name kind body (Histogram a) (Histogram b) h k =
    ap Histogram (numbers-unique a b
    (shared-unique name body (Histogram a) (Histogram b) h.1.0 k.1.0)
    (IsWholeAt-unique whole_number (codes "interval") body a.interval b.interval h.1.1 k.1.1))
IsSourceOfKind-unique name kind body (Histogram a) (DateHistogram b) h k =
    by_letter (codes "histogram") (codes "date_histogram") (sym h.0 ∙ k.0) (λ l. omega (arith, l))
IsSourceOfKind-unique name kind body (DateHistogram a) (Terms b) h k =
    by_letter (codes "date_histogram") (codes "terms") (sym h.0 ∙ k.0) (λ l. omega (arith, l))
IsSourceOfKind-unique name kind body (DateHistogram a) (Histogram b) h k =
    by_letter (codes "date_histogram") (codes "histogram") (sym h.0 ∙ k.0) (λ l. omega (arith, l))
IsSourceOfKind-unique name kind body (DateHistogram a) (DateHistogram b) h k =
    ap DateHistogram (dates-unique body a b
    (shared-unique name body (DateHistogram a) (DateHistogram b) h.1.0 k.1.0) h.1.1 k.1.1)

IsSourceJson-unique : (d : Data) (a b : CompositeAggregationSource) → IsSourceJson false d a
    → IsSourceJson false d b → a ≡ b
IsSourceJson-unique d a b (name, kind, named, body, only, inner, is)
    (other, kind_too, named_too, body_too, only_too, inner_too, is_too) =
    let outside : (name, named) ≡ (other, named_too) =
    same_value (name, named) (other, named_too) (sym only ∙ only_too) in
    let inside : (kind, body) ≡ (kind_too, body_too) =
    same_value (kind, body) (kind_too, body_too)
    (sym inner ∙ ap only_member (ap (λ (m : List ℕ × Data). m.1) outside) ∙ inner_too) in
    let there : IsSourceOfKind false other kind body b =
    subst (λ (m : List ℕ × Data). IsSourceOfKind false other m.0 m.1 b) (sym inside) is_too in
    let here : IsSourceOfKind false name kind body b =
    subst (λ n. IsSourceOfKind false n kind body b)
    (sym (ap (λ (m : List ℕ × Data). m.0) outside)) there in
    IsSourceOfKind-unique name kind body a b is here

AreSources-unique : (body : Data) (a b : List CompositeAggregationSource)
    → AreSources false body a → AreSources false body b → a ≡ b
AreSources-unique body a b (items, is, each) (items_too, is_too, each_too) =
    let same : items_too ≡ items = same_value items_too items (sym is_too ∙ is) in
    EachIs-unique (IsSourceJson false) IsSourceJson-unique items a b each
    (subst (λ l. EachIs (IsSourceJson false) l b) same each_too)

-- ---- the size and the after key

EachNamedIs-unique : {A : Type 0} (Is : Data → A → Type 0)
    → ((d : Data) (a b : A) → Is d a → Is d b → a ≡ b) → (members : Members) (xs ys : Named A)
    → EachNamedIs Is members xs → EachNamedIs Is members ys → xs ≡ ys
EachNamedIs-unique Is one no_members [] [] h k = refl
EachNamedIs-unique Is one no_members [] (y ∷ ys) h k = absurd k
EachNamedIs-unique Is one no_members (x ∷ xs) ys h k = absurd h
EachNamedIs-unique Is one (member name d rest) [] ys h k = absurd h
EachNamedIs-unique Is one (member name d rest) (x ∷ xs) [] h k = absurd k
EachNamedIs-unique Is one (member name d rest) (x ∷ xs) (y ∷ ys) h k =
    let firsts : x ≡ y = λ i. ((h.0 ∙ sym k.0) i, one d x.1 y.1 h.1 k.1 i) in
    ap (λ l. l ∷ xs) firsts
    ∙ ap (λ l. y ∷ l) (EachNamedIs-unique Is one rest xs ys h.2 k.2)

IsAfter-unique : (o : Option Data) (a b : Named AfterKey) → IsAfter false o a → IsAfter false o b
    → a ≡ b
IsAfter-unique None a b h k = h ∙ sym k
IsAfter-unique (Some d) a b (named, is, each) (named_too, is_too, each_too) =
    let same : named_too ≡ named = same_value named_too named (sym is_too ∙ is) in
    EachNamedIs-unique (IsKeyJson false) IsKeyJson-unique named a b each
    (subst (λ m. EachNamedIs (IsKeyJson false) m b) same each_too)

-- ---- composites

pub IsCompositeJson-unique : (body : Data) (a b : CompositeAggregation)
    → IsCompositeJson false body a → IsCompositeJson false body b → a ≡ b
IsCompositeJson-unique body a b h k =
    let sources : a.sources ≡ b.sources =
    AreSources-unique body a.sources b.sources h.sources k.sources in
    let sizes : a.size ≡ b.size =
    IsWholeAt-unique small_number (codes "size") body a.size b.size h.size k.size in
    let afters : a.after ≡ b.after =
    IsAfter-unique (get (codes "after") body) a.after b.after h.after k.after in
    λ i. record { sources = sources i; size = sizes i; after = afters i }
