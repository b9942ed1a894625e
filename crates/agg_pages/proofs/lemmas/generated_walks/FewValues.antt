-- A generated document has one value of a field at most.
use Rattle.std.proofs.Common.{◌≡◌, ◌≤◌, ◌+◌, ◌*◌, ◌%◌, ℕ, List, [], ◌∷◌, ◌++◌, Bool, true, false}
use Rattle.std.proofs.Common.{codes, length, map, sym, ◌∙◌, arith}
use Rattle.std.specs.Prelude.{◌==◌, if◌then◌else◌}
use Rattle.std.specs.List.{AllByRecursion, range_with_len}
use Rattle.std.proofs.lemmas.List.{length-map}
use Rattle.std.proofs.lemmas.List.Sorted.{length_permutation}
use Rattle.agg_segment.specs.storage.Document.{Fields, by_class, key_of, meaning, values_in}
use Rattle.agg_segment.specs.declared.storage.document.FieldValue.{FieldValue}
use Rattle.agg_segment.proofs.lemmas.storage.Classes.{by_class_moves}
use Rattle.agg_request_tree.proofs.Lists.{AllByRecursion-always, AllByRecursion-map}
use Rattle.agg_pages.specs.generator.Documents.{date_drawn, generated_document, generated_documents}
use Rattle.agg_pages.specs.generator.Documents.{number_drawn, text_drawn, values_drawn}
use Rattle.agg_pages.specs.generator.Draws.{draw}

-- a document has one number, one text and one date at most
pub record HasFewValues (document : Fields) : Type 0 where
  pub number : length (document (codes "a")) ≤ 1
  pub text : length (document (codes "b")) ≤ 1
  pub date : length (document (codes "d")) ≤ 1

-- a document has as many keys of a field as it was given values
length-meaning : (values : List (List ℕ × FieldValue)) (field : List ℕ)
    → length (meaning values field) ≡ length (values_in values field)
length-meaning values field =
    let keys = map key_of (values_in values field) in
    sym (length_permutation (by_class keys) keys (by_class_moves keys))
    ∙ length-map (values_in values field) key_of

-- the values that are drawn for a document, with or without a text
abbrev drawn_with : ℕ → List (List ℕ × FieldValue) → ℕ → List (List ℕ × FieldValue)
drawn_with a texts d = (codes "a", number_drawn a) ∷ [] ++ texts ++ (codes "d", date_drawn d) ∷ []

-- are few
drawn_few : (a b d : ℕ) → HasFewValues (meaning (values_drawn a b d))
drawn_few a b d = by_test (b % 7 == 0)
  where
    by_test : (t : Bool) → HasFewValues (meaning
        (drawn_with a (if t then [] else (codes "b", text_drawn b) ∷ []) d))
    by_test true = record {
      number = omega (arith, length-meaning (drawn_with a [] d) (codes "a"));
      text = omega (arith, length-meaning (drawn_with a [] d) (codes "b"));
      date = omega (arith, length-meaning (drawn_with a [] d) (codes "d"));
    }
    by_test false =
        let values = drawn_with a ((codes "b", text_drawn b) ∷ []) d in
        record {
          number = omega (arith, length-meaning values (codes "a"));
          text = omega (arith, length-meaning values (codes "b"));
          date = omega (arith, length-meaning values (codes "d"));
        }

-- each of generated documents has few values
pub generated_few : (seed first count : ℕ)
    → AllByRecursion HasFewValues (generated_documents seed first count)
unfolding generated_documents
generated_few seed first count =
    let places = range_with_len first count in
    AllByRecursion-map HasFewValues (generated_document seed) places
    (AllByRecursion-always (λ place. HasFewValues (generated_document seed place))
    (λ place.
    drawn_few (draw seed (3 * place)) (draw seed (3 * place + 1)) (draw seed (3 * place + 2)))
    places)
