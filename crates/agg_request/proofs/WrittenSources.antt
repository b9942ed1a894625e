-- Sources as they are written.
use Rattle.std.proofs.Common.{◌≡◌, ◌<◌, ◌+◌, ℕ, List, [], ◌∷◌, ◌++◌, get_or, length, take}
use Rattle.std.proofs.Common.{true, false, Option, None, Some, option_map, codes}
use Rattle.std.proofs.Common.{Result, Ok, Err, IfOk, refl, sym, subst, ap, ◌∙◌, true≢false}
use Rattle.std.specs.Str.{bytes_eq}
use Rattle.std.proofs.lemmas.List.{take_more}
use Rattle.serde_json.specs.Data.{Data, Members, boolean, object, put, string}
use Rattle.serde_json.specs.Find.{as_str, get_member}
use Rattle.serde_json.specs.View.{view, items_view}
use Rattle.serde_json.specs.declared.value.Value.{Value}
use Rattle.serde_json.proofs.Views.{get_member-put, get_member-put_other}
use Rattle.agg_values.specs.declared.after_key.AfterKey.{AfterKey}
use Rattle.agg_request.specs.reading.CompositeJson.{IsLeastOf, IsSharedBody}
use Rattle.agg_request.specs.reading.CompositeJson.{IsSourceBody, IsSourceJson, IsSourceOfKind}
use Rattle.agg_request.specs.reading.CompositeJson.{IsTextAt, missing_order_word, order_word}
use Rattle.agg_request.specs.reading.CompositeJson.{source_word, unit_word}
use Rattle.agg_request.specs.json_values.Json.{alone, EachIs, IsGiven, IsWhole, present}
use Rattle.agg_request.specs.json_values.Json.{whole_number}
use Rattle.agg_request.specs.ReadBack.{IsLeastReadBack, IsWritten}
use Rattle.agg_request.specs.WrittenJson.{data_of_key, data_of_source, shared_members}
use Rattle.agg_request.specs.WrittenJson.{source_members, with_least, with_text}
use Rattle.agg_request_tree.specs.Source.{field_of, min_key_of, missing_bucket_of}
use Rattle.agg_request_tree.specs.Source.{missing_order_of, name_of, order_of}
use Rattle.agg_request_tree.specs.declared.source.CompositeAggregationSource as any_source
use any_source.{CompositeAggregationSource}
use any_source.TheVariants.{Histogram, DateHistogram}
use Rattle.agg_request_tree.specs.declared.source.HistogramCompositeAggregationSource as numbers
use numbers.{HistogramCompositeAggregationSource as Numbers}
use Rattle.agg_request_tree.specs.declared.source.DateHistogramCompositeAggregationSource as dates
use dates.{DateHistogramCompositeAggregationSource as Dates}
use Rattle.agg_request.proofs.lemmas.json_values.Items.{each_put}

-- ---- members that may stand in a body

-- names that are told apart aren't the same
apart : (q name : List ℕ) → bytes_eq q q ≡ true → bytes_eq q name ≡ false → q ≡ name → ⊥
apart q name itself other e = true≢false (sym itself ∙ ap (bytes_eq q) e ∙ other)

-- a text changes nothing under another name
past-text : (q name : List ℕ) (text : Option (List ℕ)) (ms : Members) → (q ≡ name → ⊥)
    → get_member q (with_text name text ms) ≡ get_member q ms
past-text q name None ms other = refl
past-text q name (Some text) ms other = get_member-put_other q name (string text) ms other

-- nor does a least value
past-least : (q : List ℕ) (least : Option AfterKey) (ms : Members) → (q ≡ codes "min" → ⊥)
    → get_member q (with_least least ms) ≡ get_member q ms
past-least q None ms other = refl
past-least q (Some least) ms other =
    get_member-put_other q (codes "min") (data_of_key least) ms other

-- a least value that is added stands there
least-at : (least : Option AfterKey) (ms : Members) → get_member (codes "min") ms ≡ None
    → IsLeastReadBack least → IsLeastOf false (object (with_least least ms)) least
least-at None ms none told = rw none tt
least-at (Some least) ms none told =
    rw (get_member-put (codes "min") (data_of_key least) ms) told

-- so does a text, as far as members have at its name what these have
text-at : (name : List ℕ) (text : Option (List ℕ)) (ms all : Members) → get_member name ms ≡ None
    → get_member name all ≡ get_member name (with_text name text ms)
    → IsTextAt name (object all) text
text-at name None ms all none same = rw (same ∙ none) tt
text-at name (Some text) ms all none same =
    rw (same ∙ get_member-put name (string text) ms) refl

-- and so does a word
word-at : {A : Type 0} (word : A → List ℕ) (name : List ℕ) (x : Option A) (ms all : Members)
    → get_member name ms ≡ None
    → get_member name all ≡ get_member name (with_text name (option_map word x) ms)
    → IsGiven (λ d y. as_str d ≡ Some (word y)) (present name (object all)) x
word-at word name None ms all none same = rw (same ∙ none) tt
word-at word name (Some x) ms all none same =
    rw (same ∙ get_member-put name (string (word x)) ms) refl

-- ---- bodies

-- members hold what any source's body does, but for its least value
record AreShared (ms : Members) (source : CompositeAggregationSource) : Type 0 where
  field : get_member (codes "field") ms ≡ Some (string (field_of source))
  order : get_member (codes "order") ms ≡ Some (string (order_word (order_of source)))
  missing_bucket : get_member (codes "missing_bucket") ms
      ≡ Some (boolean (missing_bucket_of source))
  missing_order : get_member (codes "missing_order") ms
      ≡ Some (string (missing_order_word (missing_order_of source)))
  min : get_member (codes "min") ms ≡ None

-- with the least value they say all that sources share
shared-body : (source : CompositeAggregationSource) (ms : Members) → AreShared ms source
    → IsLeastReadBack (min_key_of source)
    → IsSharedBody false (name_of source) (object (with_least (min_key_of source) ms)) source
shared-body source ms h told = record {
  named = refl;
  field = rw (past (codes "field") (apart (codes "field") (codes "min") refl refl) ∙ h.field) refl;
  order = rw (past (codes "order") (apart (codes "order") (codes "min") refl refl) ∙ h.order) refl;
  missing_bucket = rw (past (codes "missing_bucket")
      (apart (codes "missing_bucket") (codes "min") refl refl) ∙ h.missing_bucket) refl;
  missing_order = rw (past (codes "missing_order")
      (apart (codes "missing_order") (codes "min") refl refl) ∙ h.missing_order) refl;
  min = least-at (min_key_of source) ms h.min told;
}
  where
    past : (q : List ℕ) → (q ≡ codes "min" → ⊥)
        → get_member q (with_least (min_key_of source) ms) ≡ get_member q ms
    past q other = past-least q (min_key_of source) ms other

-- the body of a histogram source says it
pub numbers-body : (s : Numbers) (interval : Data) → IsWhole whole_number false interval s.interval
    → IsLeastReadBack s.min
    → IsSourceBody false s.name (object (with_least s.min (put (codes "interval") interval
    (shared_members s.field s.order s.missing_bucket s.missing_order)))) (Histogram s)
numbers-body s interval whole told = (
  shared-body (Histogram s) ms (record {
    field = refl;
    order = refl;
    missing_bucket = refl;
    missing_order = refl;
    min = refl;
  }) told,
  (
    interval,
    past-least (codes "interval") s.min ms
        (apart (codes "interval") (codes "min") refl refl),
    whole,
  ),
)
  where
    ms : Members
    ms = put (codes "interval") interval
        (shared_members s.field s.order s.missing_bucket s.missing_order)

-- the body of a date source says it
pub dates-body : (s : Dates) → IsLeastReadBack s.min
    → IsSourceBody false s.name (object (source_members (DateHistogram s))) (DateHistogram s)
dates-body s told = (
  shared-body (DateHistogram s) offset (record {
    field = past (codes "field") refl refl refl refl;
    order = past (codes "order") refl refl refl refl;
    missing_bucket = past (codes "missing_bucket") refl refl refl refl;
    missing_order = past (codes "missing_order") refl refl refl refl;
    min = past (codes "min") refl refl refl refl;
  }) told,
  (
    text-at (codes "fixed_interval") s.fixed_interval base all refl
        (past-least (codes "fixed_interval") s.min offset
        (apart (codes "fixed_interval") (codes "min") refl refl)
        ∙ past-text (codes "fixed_interval") (codes "offset") s.offset calendar
        (apart (codes "fixed_interval") (codes "offset") refl refl)
        ∙ past-text (codes "fixed_interval") (codes "calendar_interval") units fixed
        (apart (codes "fixed_interval") (codes "calendar_interval") refl refl)),
    word-at unit_word (codes "calendar_interval") s.calendar_interval fixed all
        (past-text (codes "calendar_interval") (codes "fixed_interval") s.fixed_interval base
        (apart (codes "calendar_interval") (codes "fixed_interval") refl refl))
        (past-least (codes "calendar_interval") s.min offset
        (apart (codes "calendar_interval") (codes "min") refl refl)
        ∙ past-text (codes "calendar_interval") (codes "offset") s.offset calendar
        (apart (codes "calendar_interval") (codes "offset") refl refl)),
    text-at (codes "offset") s.offset calendar all
        (past-text (codes "offset") (codes "calendar_interval") units fixed
        (apart (codes "offset") (codes "calendar_interval") refl refl)
        ∙ past-text (codes "offset") (codes "fixed_interval") s.fixed_interval base
        (apart (codes "offset") (codes "fixed_interval") refl refl))
        (past-least (codes "offset") s.min offset
        (apart (codes "offset") (codes "min") refl refl)),
  ),
)
  where
    units : Option (List ℕ)
    units = option_map unit_word s.calendar_interval

    base : Members
    base = shared_members s.field s.order s.missing_bucket s.missing_order

    fixed : Members
    fixed = with_text (codes "fixed_interval") s.fixed_interval base

    calendar : Members
    calendar = with_text (codes "calendar_interval") units fixed

    offset : Members
    offset = with_text (codes "offset") s.offset calendar

    all : Members
    all = with_least s.min offset

    past : (q : List ℕ) → bytes_eq q q ≡ true → bytes_eq q (codes "offset") ≡ false
        → bytes_eq q (codes "calendar_interval") ≡ false
        → bytes_eq q (codes "fixed_interval") ≡ false
        → get_member q offset ≡ get_member q base
    past q itself not_offset not_calendar not_fixed =
        past-text q (codes "offset") s.offset calendar (apart q (codes "offset") itself not_offset)
        ∙ past-text q (codes "calendar_interval") units fixed
        (apart q (codes "calendar_interval") itself not_calendar)
        ∙ past-text q (codes "fixed_interval") s.fixed_interval base
        (apart q (codes "fixed_interval") itself not_fixed)

-- ---- sources

-- a body of a kind under its name is what is written of the source, and says it
pub is-source : {E : Type 0} (result : Result Value E) (kind : List ℕ) (body : Data)
    (source : CompositeAggregationSource)
    → IfOk result (λ v. view v ≡ alone (name_of source) (alone kind body))
    → kind ≡ source_word source → body ≡ object (source_members source)
    → IsSourceOfKind false (name_of source) kind body source
    → IfOk result (λ v. IsWritten data_of_source (IsSourceJson false) (view v) source)
is-source (Ok v) kind body source is same written told = (
  is ∙ ap (λ d. alone (name_of source) (alone kind d)) written
      ∙ ap (λ word. alone (name_of source) (alone word (object (source_members source)))) same,
  subst (λ d. IsSourceJson false d source) (sym is)
      (name_of source, kind, alone kind body, body, refl, refl, told),
)
is-source (Err e) kind body source is same written told = tt

-- one more of a list is written
pub each_written : {A : Type 0} (Is : Data → A → Type 0) (vs new : List Value) (v : Value)
    (xs : List A) (i : ℕ) (x : A) → i < length xs → x ≡ get_or xs i x
    → EachIs Is (items_view vs) (take i xs) → Is (view v) x → new ≡ vs ++ v ∷ []
    → EachIs Is (items_view new) (take (i + 1) xs)
each_written Is vs new v xs i x below at done is put =
    let taken = subst (λ y. take (i + 1) xs ≡ take i xs ++ y ∷ []) (sym at)
    (take_more xs i x below) in
    subst (EachIs Is (items_view new)) (sym taken)
    (subst (λ ws. EachIs Is (items_view ws) (take i xs ++ x ∷ [])) (sym put)
    (each_put Is vs v (take i xs) x done is))
