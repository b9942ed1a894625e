-- No number that is drawn is below zero.
use Rattle.std.proofs.Common.{◌≡◌, ◌+◌, ◌*◌, ◌%◌, ℕ, pos, List, [], ◌∷◌, ◌++◌, codes, map}
use Rattle.std.proofs.Common.{Bool, true, false, sym, ap, subst, ◌∙◌, arith}
use Rattle.std.specs.Prelude.{◌≢◌, ◌==◌, filter, flat_map, if◌then◌else◌}
use Rattle.std.specs.List.{All, Contains, range_with_len}
use Rattle.std.specs.Str.{bytes_eq}
use Rattle.std.proofs.lemmas.Bool.Decides.{nat_tests}
use Rattle.std.proofs.lemmas.List.Elements.{All-append, All-cons, All-contains, All-nil, All-push}
use Rattle.std.proofs.lemmas.List.Sorted.{Contains-permutation}
use Rattle.std.proofs.lemmas.Map.Made.{Contains-from_values_of}
use Rattle.agg_values.specs.TypedKey.{CompositeIntermediateKey}
use Rattle.agg_values.specs.declared.typed_key.CompositeIntermediateKey.TheVariants as key
use Rattle.agg_segment.specs.storage.Document.{Fields, key_of, meaning, values_in}
use Rattle.agg_segment.specs.declared.storage.document.FieldValue.{FieldValue}
use Rattle.agg_segment.specs.declared.storage.sign.Sign.TheVariants.{Small, Negative}
use Rattle.agg_segment.proofs.lemmas.storage.Classes.{by_class_moves}
use Rattle.agg_segment.proofs.lemmas.storage.Members.{from_filter, from_flat, from_map}
use Rattle.agg_segment.specs.SegmentLimits.{IsMixed, sign_of}
use Rattle.agg_pages.specs.generator.Documents.{date_drawn, generated_document, generated_documents}
use Rattle.agg_pages.specs.generator.Documents.{generated_values, number_drawn, text_drawn}
use Rattle.agg_pages.specs.generator.Documents.{texts_drawn, values_drawn}
use Rattle.agg_pages.specs.generator.Draws.{draw}

-- the value of a field is no number below zero
abbrev IsNotNegative : List ℕ × FieldValue → Type 0
IsNotNegative p = sign_of (key_of p.1) ≢ Negative

-- a natural number is not below zero
sign_of_natural : (n : ℕ) → sign_of (key.I64 (pos n)) ≡ Small
sign_of_natural n = grind (arith, nat_tests)

-- a text that is drawn is no number below zero
texts_drawn_sign : (b : ℕ) → All IsNotNegative (texts_drawn b)
texts_drawn_sign b = by_test (b % 7 == 0)
  where
    by_test : (t : Bool) → All IsNotNegative (if t then [] else (codes "b", text_drawn b) ∷ [])
    by_test true = All-nil IsNotNegative
    by_test false =
        All-cons IsNotNegative (codes "b", text_drawn b) [] (λ is. cc) (All-nil IsNotNegative)

-- no value of a document is a number below zero
values_drawn_sign : (a b d : ℕ) → All IsNotNegative (values_drawn a b d)
values_drawn_sign a b d =
    let number : List ℕ × FieldValue = (codes "a", number_drawn a) in
    let natural = sign_of_natural (a % 50) in
    All-push IsNotNegative (number ∷ [] ++ texts_drawn b) (codes "d", date_drawn d)
    (All-append IsNotNegative (number ∷ []) (texts_drawn b)
    (All-cons IsNotNegative number [] (λ is. cc) (All-nil IsNotNegative))
    (texts_drawn_sign b))
    (λ is. cc)

-- so no key of a document is below zero
meaning_sign : (values : List (List ℕ × FieldValue)) (field : List ℕ)
    (found : CompositeIntermediateKey) → All IsNotNegative values
    → Contains (meaning values field) found → sign_of found ≢ Negative
meaning_sign values field found all has negative =
    let moved = Contains-permutation (meaning values field) (map key_of (values_in values field))
    found (by_class_moves (map key_of (values_in values field))) has in
    let (value, of_field, is) = from_map key_of (values_in values field) found moved in
    let (name, stands) = Contains-from_values_of
    (filter (λ (p : List ℕ × FieldValue). bytes_eq field p.0) values) value of_field in
    let (among, _) = from_filter (λ (p : List ℕ × FieldValue). bytes_eq field p.0) values
    (name, value) stands in
    All-contains IsNotNegative values (name, value) all among (ap sign_of is ∙ negative)

-- documents that are drawn may stand in one segment
pub generated_documents_fit : (seed first count : ℕ)
    → ¬ IsMixed (generated_documents seed first count)
unfolding generated_documents
generated_documents_fit seed first count (field, negative, _) =
    let of_field = λ (d : Fields). d field in
    let documents = generated_documents seed first count in
    let (found, among, is) = from_map sign_of (flat_map of_field documents) Negative negative in
    let (document, stands, has) = from_flat of_field documents found among in
    let (place, _, drawn) = from_map (generated_document seed) (range_with_len first count) document
    stands in
    meaning_sign (generated_values seed place) field found
    (values_drawn_sign (draw seed (3 * place)) (draw seed (3 * place + 1))
    (draw seed (3 * place + 2)))
    (subst (λ (d : Fields). Contains (d field) found) (sym drawn) has) is
