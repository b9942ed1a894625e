-- What queries of queries match.
use Rattle.std.proofs.Common.{◌≡◌, ◌≢◌, ◌∙◌, refl, sym, ap, Bool, true, false, ◌&&◌, ◌||◌, not}
use Rattle.std.proofs.Common.{ℕ, List, [], ◌∷◌, ◌++◌, map, length, Ok, Some, None}
use Rattle.std.specs.List.{list_any}
use Rattle.agg_segment.specs.storage.Document.{Fields}
use Rattle.agg_segment.specs.declared.storage.document.FieldValue.{FieldValue}
use Rattle.agg_segment.specs.declared.storage.document.FieldValue.TheVariants as field_value
use Rattle.agg_segment.specs.Query.{all_match, holds, is_value, matches, matches_by}
use Rattle.agg_segment.specs.Query.{some_matches}
use Rattle.agg_segment.specs.declared.query.QueryTree.{QueryTree}
use Rattle.agg_segment.specs.declared.query.QueryTree.TheVariants.{Boolean, Term, rolls-Term}
use Rattle.agg_segment.specs.declared.query.QueryTree.TheOpen as layer
use Rattle.agg_segment.specs.declared.query.QueryTree.TheFolds.{fold-roll-QueryTree}
use Rattle.agg_segment.proofs.Queries.{matches-must, matches-should}
use Rattle.peslumok_texts.specs.fields.Values.{text_value}
use Rattle.peslumok_texts.specs.declared.fields.field_type.FieldType.{FieldType}
use Rattle.peslumok_texts.specs.declared.fields.field_type.FieldType.TheVariants as kind
use Rattle.peslumok_front.specs.grouping.Query.{holds_text, is_one_of, other_values, plain_values}
use Rattle.peslumok_front.specs.grouping.Query.{truth_of}

-- ---- truth values

pub and_true : (b : Bool) → (b && true) ≡ b
and_true true = refl
and_true false = refl

or_false : (b : Bool) → (b || false) ≡ b
or_false true = refl
or_false false = refl

or_swap : (a b c d : Bool) → ((a || b) || (c || d)) ≡ ((a || c) || (b || d))
or_swap true b c d = refl
or_swap false true true d = refl
or_swap false true false d = refl
or_swap false false true d = refl
or_swap false false false d = refl

-- ---- Boolean queries

-- without must_not some should matches
pub matches-some : (must should must_not : List QueryTree) (document : Fields) → must ≡ []
    → must_not ≡ [] → matches (Boolean must should must_not) document
    ≡ some_matches matches should document
matches-some must should must_not document none nothing =
    matches-should must should must_not document (ap length none)
    ∙ ap (λ (trees : List QueryTree). some_matches matches should document
    && not (some_matches matches trees document)) nothing
    ∙ and_true (some_matches matches should document)

-- without must_not every must matches, where there is one
pub matches-all : (must should must_not : List QueryTree) (document : Fields) → length must ≢ 0
    → must_not ≡ [] → matches (Boolean must should must_not) document
    ≡ all_match matches must document
matches-all must should must_not document some nothing =
    matches-must must should must_not document some
    ∙ ap (λ (trees : List QueryTree). all_match matches must document
    && not (some_matches matches trees document)) nothing
    ∙ and_true (all_match matches must document)

-- ---- values

matches-Term : (field : List ℕ) (v : FieldValue) (document : Fields)
    → matches (Term field v) document ≡ holds (is_value v) field document
matches-Term field v document =
    ap (λ tree. matches tree document) (sym (rolls-Term field v))
    ∙ ap (λ f. f document)
    (fold-roll-QueryTree (Fields → Bool) matches_by (layer.Term field v))

any_either : {X : Type 0} (p q : X → Bool) (xs : List X)
    → list_any (λ x. p x || q x) xs ≡ (list_any p xs || list_any q xs)
any_either p q [] = refl
any_either p q (x ∷ xs) =
    ap (λ b. (p x || q x) || b) (any_either p q xs)
    ∙ or_swap (p x) (q x) (list_any p xs) (list_any q xs)

any_none : {X : Type 0} (xs : List X) → list_any (λ x. false) xs ≡ false
any_none [] = refl
any_none (x ∷ xs) = any_none xs

-- the queries of some values match what holds one of them
pub some-terms : (field : List ℕ) (values : List FieldValue) (document : Fields)
    → some_matches matches (map (Term field) values) document
    ≡ holds (is_one_of values) field document
some-terms field [] document = sym (any_none (document field))
some-terms field (v ∷ values) document =
    ap (λ b. matches (Term field v) document || b) (some-terms field values document)
    ∙ ap (λ b. b || holds (is_one_of values) field document) (matches-Term field v document)
    ∙ sym (any_either (is_value v) (is_one_of values) (document field))

-- the query of one value matches what holds it
pub one-term : (field : List ℕ) (v : FieldValue) (document : Fields)
    → matches (Term field v) document ≡ holds (is_one_of (v ∷ [])) field document
one-term field v document =
    sym (or_false (matches (Term field v) document)) ∙ some-terms field (v ∷ []) document

-- the queries of what a text means in a plain field where it is no truth value's word
pub two-terms : (field text copy : List ℕ) (v : FieldValue) (start one two : List QueryTree)
    → start ≡ [] → one ≡ start ++ Term field v ∷ []
    → two ≡ one ++ Term field (field_value.Str copy) ∷ [] → copy ≡ text → truth_of text ≡ None
    → two ≡ map (Term field) (v ∷ plain_values text)
two-terms field text copy v start one two none first second is no_truth =
    rw (second, first, none, is, no_truth) refl

-- the queries of what a text means in a plain field where it is a truth value's word
pub three-terms : (field text copy : List ℕ) (v : FieldValue) (b : Bool)
    (start one two three : List QueryTree)
    → start ≡ [] → one ≡ start ++ Term field v ∷ []
    → two ≡ one ++ Term field (field_value.Str copy) ∷ []
    → three ≡ two ++ Term field (field_value.Bool b) ∷ [] → copy ≡ text
    → truth_of text ≡ Some b → three ≡ map (Term field) (v ∷ plain_values text)
three-terms field text copy v b start one two three none first second third is truth =
    rw (third, second, first, none, is, truth) refl

no_others : (of : FieldType) (text : List ℕ) → of ≢ kind.Plain → other_values of text ≡ []
no_others kind.Plain text plain = absurd (plain refl)
no_others kind.Text text plain = refl
no_others kind.Date text plain = refl
no_others (kind.DateNumber unit) text plain = refl
no_others (kind.Decimal places) text plain = refl

-- a text means one value in a field that isn't plain
pub holds-one : (of : FieldType) (text field : List ℕ) (v : FieldValue) (document : Fields)
    → of ≢ kind.Plain → text_value of text ≡ Ok v
    → holds (is_one_of (v ∷ [])) field document ≡ holds_text of text field document
holds-one of text field v document plain is = rw (is, no_others of text plain) refl
