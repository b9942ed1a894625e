-- Texts of JSON that have no documents.
use Rattle.std.proofs.Common.{◌≡◌, ◌<◌, ◌≤◌, ◌-◌, ℕ, zero, suc, Bool, true, false, cond, List, []}
use Rattle.std.proofs.Common.{◌∷◌, ◌++◌, map, length, get_or, refl, sym, ap, ◌∙◌, arith, subst}
use Rattle.std.specs.Prelude.{Option, Some, None, is_some, not, option_and_then}
use Rattle.std.proofs.lemmas.Option.{none-some}
use mathlib.Core.Bool.{true≢false}
use Rattle.json.specs.Json.{Items, Json, Members, after_end_array, array, boolean, document}
use Rattle.json.specs.Json.{if_last, item, items, max_depth, members, no_items, null, number}
use Rattle.json.specs.Json.{object, parse_map, string, value}
use Rattle.json.specs.Lex.{tokens}
use Rattle.json.specs.Reads.{Yields, token_of}
use Rattle.json.specs.Token.{Token}
use Rattle.json.specs.Value.{items_of, items_view, value_view}
use Rattle.json.specs.declared.token.Token as tok
use Rattle.json.specs.declared.value.Value.{Value}
use Rattle.json.proofs.Grammar.{items_end, items_fail, items_more, value-begin_array}
use Rattle.json.proofs.Grammar.{value-begin_object, value_is}
use Rattle.agg_values.specs.Nothing.{NoneIs}
use Rattle.agg_segment.specs.storage.Document.{Fields}
use Rattle.peslumok_texts.specs.declared.fields.field_type.FieldType.{FieldType}
use Rattle.peslumok_records.specs.held.Documents.{AreRead, IsRead}
use Rattle.peslumok_records.specs.held.Values.{joined}
use Rattle.peslumok_records.specs.declared.held.asked.AskedField.{AskedField}
use Rattle.peslumok_records.proofs.lemmas.held.NoDocuments.{joined-none, none_among, none_first}
use Rattle.peslumok_records.proofs.lemmas.held.NoDocuments.{none_later}
use Rattle.peslumok_records.specs.objects.JsonRecords.{AreItemDocuments}
use Rattle.peslumok_records.specs.objects.Lines.{is_blank, without_blank}
use Rattle.peslumok_records.specs.objects.Objects.{item_values, object_document, single_values}
use Rattle.peslumok_records.proofs.lemmas.objects.ReadItems.{HasRead, before}
use Rattle.peslumok_records.proofs.lemmas.objects.SoleItems.{in_array, listed, listed-items_of}

-- ---- values

pub no_item : {A : Type 0} (of : FieldType) (vs : List (Value A)) (at : ℕ) (v : Value A)
    → at < length vs → v ≡ get_or vs at v → single_values of (value_view v) ≡ None
    → item_values of (items_view vs) ≡ None
no_item of [] at v within is none = absurd (omega (arith, within))
no_item of (first ∷ vs) zero v within is none =
    ap (λ o. joined o (item_values of (items_view vs)))
    (ap (λ w. single_values of (value_view w)) (sym is) ∙ none)
no_item of (first ∷ vs) (suc at) v within is none =
    ap (joined (single_values of (value_view first)))
    (no_item of vs at v (omega (arith, within)) is none)
    ∙ joined-none (single_values of (value_view first))

-- ---- lines

module _ (f : List ℕ → Option Fields) where
  here_or_later : (x : List ℕ) (rest : List (List ℕ)) (b : Bool) → NoneIs (AreRead (map f rest))
      → NoneIs (AreRead (map f (cond (not b) (x ∷ rest) rest)))
  here_or_later x rest true none = none
  here_or_later x rest false none = none_later (f x) (map f rest) none

  -- a line that isn't blank and has no document
  pub none_of_lines : (lines : List (List ℕ)) (at : ℕ) (line : List ℕ) → at < length lines
      → line ≡ get_or lines at line → is_blank line ≡ false → NoneIs (IsRead (f line))
      → NoneIs (AreRead (map f (without_blank lines)))
  none_of_lines [] at line within is filled none = absurd (omega (arith, within))
  none_of_lines (x ∷ xs) zero line within is filled none =
      subst (λ b. NoneIs (AreRead (map f (cond (not b) (x ∷ without_blank xs)
      (without_blank xs))))) (sym (ap is_blank (sym is) ∙ filled))
      (none_first (f x) (map f (without_blank xs)) (subst (λ l. NoneIs (IsRead (f l))) is none))
  none_of_lines (x ∷ xs) (suc at) line within is filled none =
      here_or_later x (without_blank xs) (is_blank x)
      (none_of_lines xs at line (omega (arith, within)) is filled none)

-- ---- arrays

listed-before : (js : List Json) (rest : Items) → listed (before js rest) ≡ js ++ listed rest
listed-before [] rest = refl
listed-before (j ∷ js) rest = ap (λ l. j ∷ l) (listed-before js rest)

abbrev last : Option (Json × List Token) → Option Json
last o = option_and_then (λ p. if_last p.0 p.1) o

-- the tokens after items
abbrev left_of : Option (Items × List Token) → List Token
left_of None = []
left_of (Some p) = p.1

abbrev items_in : Option (Items × List Token) → Items
items_in None = no_items
items_in (Some p) = p.0

abbrev is_empty : List Token → Bool
is_empty [] = true
is_empty (t ∷ ts) = false

array_parts : (js : List Json) (r : Option (Items × List Token)) (objects : List Json)
    → last (parse_map array (parse_map (before js) r)) ≡ Some (array (items_of objects))
    → (more : Items) × (r ≡ Some (more, [])) × (objects ≡ js ++ listed more)
array_parts js None objects is = absurd (none-some (array (items_of objects)) is)
array_parts js (Some (more, t ∷ ts)) objects is = absurd (none-some (array (items_of objects)) is)
array_parts js (Some (more, [])) objects is = (
  more,
  refl,
  sym (listed-items_of objects) ∙ ap in_array (sym is) ∙ listed-before js more,
)

module _ (asked : List AskedField) (text : List ℕ) (start here : List Token) (js : List Json)
    (opens : tokens text ≡ Token.begin_array ∷ start)
    (has : HasRead (value (max_depth - 1)) start here js) where
  read_up_to : document text ≡ last (parse_map array (parse_map (before js)
      (items (value (max_depth - 1)) has.turns here)))
  read_up_to =
      ap (λ ts. last (value max_depth ts)) opens
      ∙ ap last (value-begin_array max_depth start (omega arith))
      ∙ ap (λ r. last (parse_map array r)) has.is

  parts : (documents : List Fields) (are : AreItemDocuments asked text documents)
      → (more : Items) × (items (value (max_depth - 1)) has.turns here ≡ Some (more, []))
      × (are.objects ≡ js ++ listed more)
  parts documents are =
      array_parts js (items (value (max_depth - 1)) has.turns here) are.objects
      (sym read_up_to ∙ are.is)

  -- tokens after the bracket
  pub none_after : (t : Token) (ts : List Token) → after_end_array here ≡ Some (t ∷ ts)
      → NoneIs (AreItemDocuments asked text)
  none_after t ts closes = λ documents are.
      let (more, is, objects) = parts documents are in
      let ended : Some (no_items, t ∷ ts) ≡ Some (more, []) =
      sym (items_end (value (max_depth - 1)) has.turns here (t ∷ ts) has.enough closes) ∙ is in
      absurd (true≢false (sym (ap (λ o. is_empty (left_of o)) ended)))

  module _ (going : after_end_array here ≡ None)
      (bad : (j : Json) (rest : List Token)
      → value (max_depth - 1) here ≡ Some (j, rest) → NoneIs (IsRead (object_document asked j)))
    where
      some_turns : (j : Json) (rest : List Token)
          → value (max_depth - 1) here ≡ Some (j, rest) → 0 < has.turns
      some_turns j rest is = some here has.enough is
        where
          some : (ts : List Token) → length ts ≤ has.turns
              → value (max_depth - 1) ts ≡ Some (j, rest) → 0 < has.turns
          some [] enough one =
              absurd (none-some (j, rest) (sym (value_is (max_depth - 1) []) ∙ one))
          some (t ∷ ts) enough one = omega (arith, enough)

      next_item : (j : Json) (more : Items) (r : Option (Items × List Token))
          → parse_map (item j) r ≡ Some (more, []) → (rest : Items) × (more ≡ item j rest)
      next_item j more None is = absurd (none-some (more, []) is)
      next_item j more (Some p) is = (p.0, sym (ap items_in is))

      by_next : (documents : List Fields) (are : AreItemDocuments asked text documents)
          (next : Option (Json × List Token)) → value (max_depth - 1) here ≡ next → ⊥
      by_next documents are None is =
          let (more, all, objects) = parts documents are in
          none-some (more, [])
          (sym (items_fail (value (max_depth - 1)) has.turns here going is) ∙ all)
      by_next documents are (Some (j, rest)) is =
          let p = value (max_depth - 1) in
          let (more, all, objects) = parts documents are in
          let (others, shape) = next_item j more (items p (has.turns - 1) rest)
          (sym (items_more p has.turns here rest j (some_turns j rest is) going is) ∙ all) in
          let whole : are.objects ≡ js ++ j ∷ listed others =
          objects ∙ ap (λ m. js ++ listed m) shape in
          none_among (object_document asked) js j (listed others) (bad j rest is) documents
          (subst (λ l. AreRead (map (object_document asked) l) documents) whole are.read)

      -- an item that is no object with a document
      pub none_with : NoneIs (AreItemDocuments asked text)
      none_with = λ documents are. by_next documents are (value (max_depth - 1) here) refl

-- a token that comes next
pub some_token : (old new : List Token) (next : Option tok.Token) → Yields old next new
    → is_some next ≡ true → (t : Token) × (old ≡ t ∷ new)
some_token old new None yields is = absurd (true≢false (sym is))
some_token old new (Some t) yields is = (token_of t, yields)

abbrev is_array : Json → Bool
is_array null = false
is_array (boolean b) = false
is_array (number text) = false
is_array (string text) = false
is_array (array list) = true
is_array (object inner) = false

abbrev pub json_in : Option (Json × List Token) → Json
json_in None = null
json_in (Some p) = p.0

abbrev or_null : Option Json → Json
or_null None = null
or_null (Some j) = j

not_same : (j : Json) (js : Items) (ts rest : List Token) → is_array j ≡ false
    → ◌≡◌ {A = Option (Json × List Token)} (Some (j, ts)) (Some (array js, rest)) → ⊥
not_same j js ts rest no_array same =
    true≢false (sym (ap (λ o. is_array (json_in o)) same) ∙ no_array)

no_object_is : (r : Option (Members × List Token)) (js : Items) (rest : List Token)
    → parse_map object r ≡ Some (array js, rest) → ⊥
no_object_is None js rest same = none-some (array js, rest) same
no_object_is (Some p) js rest same = not_same (object p.0) js p.1 rest refl same

not_array : (ts : List Token) → ((rest : List Token) → ts ≡ Token.begin_array ∷ rest → ⊥)
    → (js : Items) (rest : List Token) → value max_depth ts ≡ Some (array js, rest) → ⊥
not_array [] other js rest is =
    none-some (array js, rest) (sym (value_is max_depth []) ∙ is)
not_array (Token.begin_array ∷ ts) other js rest is = other ts refl
not_array (Token.begin_object ∷ ts) other js rest is =
    no_object_is (members (value (max_depth - 1)) (length ts) ts) js rest
    (sym (value-begin_object max_depth ts (omega arith)) ∙ is)
not_array (Token.end_object ∷ ts) other js rest is =
    none-some (array js, rest) (sym (value_is max_depth (Token.end_object ∷ ts)) ∙ is)
not_array (Token.end_array ∷ ts) other js rest is =
    none-some (array js, rest) (sym (value_is max_depth (Token.end_array ∷ ts)) ∙ is)
not_array (Token.key s ∷ ts) other js rest is =
    none-some (array js, rest) (sym (value_is max_depth (Token.key s ∷ ts)) ∙ is)
not_array (Token.bad ∷ ts) other js rest is =
    none-some (array js, rest) (sym (value_is max_depth (Token.bad ∷ ts)) ∙ is)
not_array (Token.string s ∷ ts) other js rest is =
    not_same (string s) js ts rest refl (sym (value_is max_depth (Token.string s ∷ ts)) ∙ is)
not_array (Token.number s ∷ ts) other js rest is =
    not_same (number s) js ts rest refl (sym (value_is max_depth (Token.number s ∷ ts)) ∙ is)
not_array (Token.boolean b ∷ ts) other js rest is =
    not_same (boolean b) js ts rest refl (sym (value_is max_depth (Token.boolean b ∷ ts)) ∙ is)
not_array (Token.null ∷ ts) other js rest is =
    not_same null js ts rest refl (sym (value_is max_depth (Token.null ∷ ts)) ∙ is)

-- a text that begins with no bracket of an array
pub none_without : (asked : List AskedField) (text : List ℕ)
    → ((rest : List Token) → tokens text ≡ Token.begin_array ∷ rest → ⊥)
    → NoneIs (AreItemDocuments asked text)
none_without asked text other = λ documents are.
    by documents are (value max_depth (tokens text)) refl
  where
    by : (documents : List Fields) (are : AreItemDocuments asked text documents)
        (r : Option (Json × List Token)) → value max_depth (tokens text) ≡ r → ⊥
    by documents are None is =
        none-some (array (items_of are.objects)) (sym (ap last is) ∙ are.is)
    by documents are (Some (j, t ∷ ts)) is =
        none-some (array (items_of are.objects)) (sym (ap last is) ∙ are.is)
    by documents are (Some (j, [])) is =
        let shape : j ≡ array (items_of are.objects) = ap or_null (sym (ap last is) ∙ are.is) in
        not_array (tokens text) other (items_of are.objects) []
        (is ∙ ap (λ x. Some (x, [])) shape)
