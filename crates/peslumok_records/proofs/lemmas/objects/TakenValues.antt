-- The values of a member that were taken into a field.
use Rattle.std.proofs.Common.{◌≡◌, ◌≤◌, ◌-◌, ℕ, List, [], ◌∷◌, ◌++◌, length, refl, sym, ap, ◌∙◌}
use Rattle.std.proofs.Common.{Bool, Bor, subst, arith, rules}
use Rattle.std.specs.Prelude.{Some, None, option_map}
use Rattle.json.specs.Json.{Json, after_end_array, array, boolean, max_depth, null, number}
use Rattle.json.specs.Json.{parse_map, string, value}
use Rattle.json.specs.Token.{Token}
use Rattle.json.specs.Value.{items_of, value_view}
use Rattle.json.specs.declared.value.Value as tree
use Rattle.json.proofs.Grammar.{after_end_array-shorter, value-begin_array, value_is}
use Rattle.peslumok_texts.specs.declared.fields.field_type.FieldType.{FieldType}
use Rattle.agg_segment.specs.Segment.{Gathered, open_document}
use Rattle.peslumok_records.specs.held.Values.{Gains, joined, named_values}
use Rattle.peslumok_records.specs.declared.held.asked.AskedField.{AskedField}
use Rattle.peslumok_records.proofs.lemmas.held.Gains.{gains-from, gains-none, gains-then}
use Rattle.peslumok_records.proofs.lemmas.held.Gains.{joined-nil, joined_assoc, named-joined}
use Rattle.peslumok_records.proofs.lemmas.held.Gains.{some_nil}
use Rattle.peslumok_records.specs.objects.Objects.{item_values, single_values}
use Rattle.peslumok_records.specs.objects.Tokens.{IsScalar, TakesItems, TakesScalar, TakesValue}
use Rattle.peslumok_records.proofs.lemmas.objects.ReadItems.{HasRead}
use Rattle.peslumok_records.proofs.lemmas.objects.ReadItems as items

values_of_items-more : (of : FieldType) (js : List Json) (j : Json)
    → item_values of (items_of (js ++ j ∷ []))
    ≡ joined (item_values of (items_of js)) (single_values of j)
values_of_items-more of [] j =
    joined-nil (single_values of j) ∙ sym (some_nil (single_values of j))
values_of_items-more of (first ∷ js) j =
    ap (joined (single_values of first)) (values_of_items-more of js j)
    ∙ sym (joined_assoc (single_values of first) (item_values of (items_of js))
    (single_values of j))

-- the items so far were taken
pub record HasTakenItems (field : AskedField) (start now : List Token) (old new : Gathered) : Type 0
  where
    pub seen : List Json
    pub read : HasRead (value (max_depth - 2)) start now seen
    pub gains : Gains (option_map (named_values field.name) (item_values field.of (items_of seen)))
        old new
    pub within : length now ≤ length start

pub no_items_yet : (field : AskedField) (start : List Token) (builder : Gathered)
    → HasTakenItems field start start builder builder
no_items_yet field start builder = record {
  seen = [];
  read = items.no_items_yet (value (max_depth - 2)) start;
  gains = gains-none builder builder refl;
  within = omega arith;
}

pub one_item_more : (field : AskedField) (start here next : List Token) (token : Token)
    (old now new : Gathered) → after_end_array here ≡ None → here ≡ token ∷ next
    → HasTakenItems field start here old now → TakesScalar field token now new
    → HasTakenItems field start next old new
one_item_more field start here next token old now new going is has took =
    let longer : length here ≡ length (token ∷ next) = ap length is in
    record {
      seen = has.seen ++ took.seen ∷ [];
      read = items.one_item_more (value (max_depth - 2)) start here next has.seen took.seen going
          (ap (value (max_depth - 2)) is ∙ took.scalar.read (max_depth - 2) next)
          (omega (arith, longer)) has.read;
      gains = subst (λ o. Gains o old new)
          (sym (ap (option_map (named_values field.name))
          (values_of_items-more field.of has.seen took.seen)
          ∙ named-joined field.name (item_values field.of (items_of has.seen))
          (single_values field.of took.seen))) (gains-then _ _ old now new has.gains took.gains);
      within = omega (arith, longer, has.within);
    }

pub all_items : (field : AskedField) (start here rest : List Token) (old new : Gathered)
    → HasTakenItems field start here old new → after_end_array here ≡ Some rest
    → TakesItems field start rest old new
all_items field start here rest old new has closes =
    let less = after_end_array-shorter here rest closes in
    record {
      seen = items_of has.seen;
      read = items.all_items (value (max_depth - 2)) start here rest has.seen has.read closes;
      gains = has.gains;
      shorter = omega (arith, less, has.within);
    }

-- ---- the values of a member

pub value_of_array : (field : AskedField) (start middle rest : List Token) (old now new : Gathered)
    → start ≡ Token.begin_array ∷ middle → TakesItems field middle rest now new
    → open_document now ≡ open_document old
    → TakesValue field start rest old new
value_of_array field start middle rest old now new is took same =
    let longer : length start ≡ length (Token.begin_array ∷ middle) = ap length is in
    record {
      seen = array took.seen;
      read = ap (value (max_depth - 1)) is
          ∙ value-begin_array (max_depth - 1) middle (omega arith)
          ∙ ap (parse_map array) took.read;
      gains = gains-from _ old now new same took.gains;
      shorter = omega (arith, longer, took.shorter);
    }

pub value_of_scalar : (field : AskedField) (start rest : List Token) (token : Token)
    (old now new : Gathered) → start ≡ token ∷ rest → TakesScalar field token now new
    → open_document now ≡ open_document old
    → TakesValue field start rest old new
value_of_scalar field start rest token old now new is took same =
    let longer : length start ≡ length (token ∷ rest) = ap length is in
    record {
      seen = took.seen;
      read = ap (value (max_depth - 1)) is ∙ took.scalar.read (max_depth - 1) rest;
      gains = subst (λ o. Gains (option_map (named_values field.name) o) old new)
          (sym (took.scalar.single field.of)) (gains-from _ old now new same took.gains);
      shorter = omega (arith, longer);
    }

-- ---- tokens that are values

pub view-String : (A : Type 0) (text : Bor (List ℕ))
    → value_view {A = A} (tree.String text) ≡ string text.now
view-String A text = search (rules, tree.the_lemmas)

pub view-Number : (A : Type 0) (text : Bor (List ℕ))
    → value_view {A = A} (tree.Number text) ≡ number text.now
view-Number A text = search (rules, tree.the_lemmas)

pub view-Bool : (A : Type 0) (b : Bool) → value_view {A = A} (tree.Bool b) ≡ boolean b
view-Bool A b = search (rules, tree.the_lemmas)

pub view-Null : (A : Type 0) → value_view {A = A} tree.Null ≡ null
view-Null A = search (rules, tree.the_lemmas)

pub scalar_string : (text : List ℕ) → IsScalar (Token.string text) (string text)
scalar_string text = record {
  single = λ of. refl;
  read = λ depth rest. value_is depth (Token.string text ∷ rest);
}

pub scalar_number : (text : List ℕ) → IsScalar (Token.number text) (number text)
scalar_number text = record {
  single = λ of. refl;
  read = λ depth rest. value_is depth (Token.number text ∷ rest);
}

pub scalar_boolean : (b : Bool) → IsScalar (Token.boolean b) (boolean b)
scalar_boolean b = record {
  single = λ of. refl;
  read = λ depth rest. value_is depth (Token.boolean b ∷ rest);
}

pub scalar_null : IsScalar Token.null null
scalar_null = record {
  single = λ of. refl;
  read = λ depth rest. value_is depth (Token.null ∷ rest);
}
