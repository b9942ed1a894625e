-- Queries as they are written.
use Rattle.std.proofs.Common.{◌≡◌, ◌<◌, ℕ, zero, suc, List, [], ◌∷◌, codes, false, refl, sym, subst}
use Rattle.std.proofs.Common.{inl, Result, Ok, Err, IfOk, map, arith, ap, ◌∙◌, true}
use Rattle.serde_json.specs.Data.{Data, object, Items, no_items, item, no_members}
use Rattle.serde_json.specs.Data.{depth, items_depth}
use Rattle.serde_json.specs.View.{items_of, view}
use Rattle.serde_json.specs.declared.value.Value.{Value}
use Rattle.agg_values.specs.KeyText.{key_text}
use Rattle.agg_segment.specs.storage.Document.{said_key}
use Rattle.agg_segment.specs.declared.storage.document.FieldValue.{FieldValue}
use Rattle.agg_segment.specs.declared.query.RangeBound.{RangeBound}
use Rattle.agg_segment.specs.declared.query.RangeBound.TheVariants.{Unbounded, Included, Excluded}
use Rattle.agg_segment.specs.declared.query.QueryTree.{QueryTree}
use Rattle.agg_segment.specs.declared.query.QueryTree.TheVariants as tree
use tree.{All, Empty, Term, Range, Exists, Boolean}
use Rattle.agg_segment.specs.declared.query.QueryTree.TheOpen as layer
use Rattle.agg_segment.specs.declared.query.QueryTree.TheFolds.{fold-roll-QueryTree}
use Rattle.agg_request.specs.json_values.Json.{alone, EachIs, IsField, has_only}
use Rattle.agg_request.specs.json_values.Query.{IsBoolean, IsBound, IsFilter, IsOfKind, IsRange}
use Rattle.agg_request.specs.json_values.Query.{IsTerm, range_names}
use Rattle.agg_request.specs.ReadBack.{IsBoundReadBack, IsReadBack, IsWritten, SaysFilter}
use Rattle.agg_request.specs.WrittenJson.{data_of_query, field_members, list_members}
use Rattle.agg_request.specs.WrittenJson.{query_step, range_members, term_members}
use Rattle.agg_request.proofs.WrittenMembers.{items-written}

-- ---- what is written, kind by kind

pub data-All : data_of_query All ≡ alone (codes "all") (object no_members)
data-All = ap data_of_query (sym tree.rolls-All) ∙ fold-roll-QueryTree Data query_step layer.All

pub data-Empty : data_of_query Empty ≡ alone (codes "empty") (object no_members)
data-Empty =
    ap data_of_query (sym tree.rolls-Empty) ∙ fold-roll-QueryTree Data query_step layer.Empty

pub data-Term : (field : List ℕ) (value : FieldValue)
    → data_of_query (Term field value) ≡ alone (codes "term") (object (term_members field value))
data-Term field value =
    ap data_of_query (sym (tree.rolls-Term field value))
    ∙ fold-roll-QueryTree Data query_step (layer.Term field value)

pub data-Range : (field : List ℕ) (lower upper : RangeBound)
    → data_of_query (Range field lower upper)
    ≡ alone (codes "range") (object (range_members field lower upper))
data-Range field lower upper =
    ap data_of_query (sym (tree.rolls-Range field lower upper))
    ∙ fold-roll-QueryTree Data query_step (layer.Range field lower upper)

pub data-Exists : (field : List ℕ)
    → data_of_query (Exists field) ≡ alone (codes "exists") (object (field_members field))
data-Exists field =
    ap data_of_query (sym (tree.rolls-Exists field))
    ∙ fold-roll-QueryTree Data query_step (layer.Exists field)

pub data-Boolean : (must should must_not : List QueryTree)
    → data_of_query (Boolean must should must_not) ≡ alone (codes "bool") (object (list_members
    (map data_of_query must) (map data_of_query should) (map data_of_query must_not)))
data-Boolean must should must_not =
    ap data_of_query (sym (tree.rolls-Boolean must should must_not))
    ∙ fold-roll-QueryTree Data query_step (layer.Boolean must should must_not)

-- ---- leaves

-- the text that is written of a value
abbrev text_of : FieldValue → List ℕ
text_of value = key_text (said_key value)

-- the body of a field and a value says the term
pub is-term : (d : Data) (field : List ℕ) (value : FieldValue)
    → d ≡ object (term_members field value) → IsReadBack value
    → IsTerm false d (Term field value)
is-term d field value is told =
    subst (λ e. IsTerm false e (Term field value)) (sym is)
    (field, value, refl, refl, refl, (text_of value, refl, inl told))

-- the body that is written of a range
abbrev range_body : List ℕ → RangeBound → RangeBound → Data
range_body field lower upper = object (range_members field lower upper)

-- its parts say the range
range-from_parts : (field : List ℕ) (lower upper : RangeBound)
    → has_only range_names (range_body field lower upper) ≡ true
    → IsField (range_body field lower upper) field
    → IsBound false (codes "gte") (codes "gt") (range_body field lower upper) lower
    → IsBound false (codes "lte") (codes "lt") (range_body field lower upper) upper
    → IsRange false (range_body field lower upper) (Range field lower upper)
range-from_parts field lower upper only named above under =
    (field, lower, upper, refl, only, named, above, under)

-- the body of a field and bounds says the range
pub is-range : (d : Data) (field : List ℕ) (lower upper : RangeBound)
    → d ≡ object (range_members field lower upper)
    → IsBoundReadBack lower → IsBoundReadBack upper
    → IsRange false d (Range field lower upper)
is-range d field lower upper is above under =
    subst (λ e. IsRange false e (Range field lower upper)) (sym is)
    (by_bounds lower upper above under)
  where
    by_bounds : (lower upper : RangeBound) → IsBoundReadBack lower → IsBoundReadBack upper
        → IsRange false (range_body field lower upper) (Range field lower upper)
    by_bounds Unbounded Unbounded l u =
        range-from_parts field Unbounded Unbounded refl refl (refl, refl) (refl, refl)
    by_bounds Unbounded (Included y) l u =
        range-from_parts field Unbounded (Included y) refl refl
        (refl, refl) ((text_of y, refl, inl u), refl)
    by_bounds Unbounded (Excluded y) l u =
        range-from_parts field Unbounded (Excluded y) refl refl
        (refl, refl) ((text_of y, refl, inl u), refl)
    by_bounds (Included x) Unbounded l u =
        range-from_parts field (Included x) Unbounded refl refl
        ((text_of x, refl, inl l), refl) (refl, refl)
    by_bounds (Included x) (Included y) l u =
        range-from_parts field (Included x) (Included y) refl refl
        ((text_of x, refl, inl l), refl) ((text_of y, refl, inl u), refl)
    by_bounds (Included x) (Excluded y) l u =
        range-from_parts field (Included x) (Excluded y) refl refl
        ((text_of x, refl, inl l), refl) ((text_of y, refl, inl u), refl)
    by_bounds (Excluded x) Unbounded l u =
        range-from_parts field (Excluded x) Unbounded refl refl
        ((text_of x, refl, inl l), refl) (refl, refl)
    by_bounds (Excluded x) (Included y) l u =
        range-from_parts field (Excluded x) (Included y) refl refl
        ((text_of x, refl, inl l), refl) ((text_of y, refl, inl u), refl)
    by_bounds (Excluded x) (Excluded y) l u =
        range-from_parts field (Excluded x) (Excluded y) refl refl
        ((text_of x, refl, inl l), refl) ((text_of y, refl, inl u), refl)

-- ---- lists

-- what is written of queries
abbrev Written : Data → QueryTree → Type 0
Written = IsWritten data_of_query SaysFilter

-- items that say queries say them within more levels than they have
within : (levels : ℕ) (items : Items) (trees : List QueryTree) → EachIs Written items trees
    → items_depth items < levels → EachIs (IsFilter false levels) items trees
within levels no_items [] h below = tt
within levels no_items (tree ∷ trees) h below = absurd h
within levels (item d items) [] h below = absurd h
within levels (item d items) (tree ∷ trees) h below =
    (h.0.1 levels (omega arith), within levels items trees h.1 (omega arith))

-- the body of three lists of filters says them
pub is-boolean : (levels : ℕ) (d : Data) (must should must_not : List QueryTree)
    (musts shoulds must_nots : List Data) → d ≡ object (list_members musts shoulds must_nots)
    → EachIs Written (items_of musts) must → EachIs Written (items_of shoulds) should
    → EachIs Written (items_of must_nots) must_not → depth d < levels
    → IsBoolean (IsFilter false levels) d (Boolean must should must_not)
is-boolean levels d must should must_not musts shoulds must_nots is first next last below =
    let body = object (list_members musts shoulds must_nots) in
    let under : depth body < levels = subst (λ e. depth e < levels) is below in
    subst (λ e. IsBoolean (IsFilter false levels) e (Boolean must should must_not)) (sym is) (
      must,
      should,
      must_not,
      refl,
      refl,
      (items_of musts, refl, within levels (items_of musts) must first (omega arith)),
      (items_of shoulds, refl, within levels (items_of shoulds) should next (omega arith)),
      (items_of must_nots, refl, within levels (items_of must_nots) must_not last (omega arith)),
    )

-- three lists that are written are just what is written of them
pub lists-written : (must should must_not : List QueryTree) (musts shoulds must_nots : List Data)
    → EachIs Written (items_of musts) must → EachIs Written (items_of shoulds) should
    → EachIs Written (items_of must_nots) must_not
    → object (list_members musts shoulds must_nots) ≡ object (list_members
    (map data_of_query must) (map data_of_query should) (map data_of_query must_not))
lists-written must should must_not musts shoulds must_nots first next last =
    let written = items-written data_of_query SaysFilter in
    rw (
      written (items_of musts) must first,
      written (items_of shoulds) should next,
      written (items_of must_nots) must_not last,
    ) refl

-- ---- filters

-- a body of a kind is what is written of the filter, and says it
pub is-filter : {E : Type 0} (result : Result Value E) (kind : List ℕ) (body : Data)
    (tree : QueryTree) → IfOk result (λ v. view v ≡ alone kind body)
    → alone kind body ≡ data_of_query tree
    → ((levels : ℕ) → depth body < levels
    → IsOfKind false (IsFilter false levels) kind body tree)
    → IfOk result (λ v. Written (view v) tree)
is-filter (Ok v) kind body tree is written told =
    (is ∙ written, subst (λ d. SaysFilter d tree) (sym is) says)
  where
    says : SaysFilter (alone kind body) tree
    says zero below = absurd (omega arith)
    says (suc levels) below = (kind, body, refl, told levels (omega arith))
is-filter (Err e) kind body tree is written told = tt
