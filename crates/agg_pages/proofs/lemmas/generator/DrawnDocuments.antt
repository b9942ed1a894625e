-- Documents that are drawn after others.
use Rattle.std.proofs.Common.{◌≡◌, ◌+◌, ◌*◌, ◌∷◌, ◌++◌, [], ℕ, List, zero, suc, length}
use Rattle.std.proofs.Common.{refl, sym, ap, ◌∙◌, add_assoc, add-zero, arith}
use Rattle.std.proofs.lemmas.List.FromFn.{length-map-range_with_len, map-range_with_len_more}
use Rattle.agg_segment.specs.storage.Document.{Fields, meaning}
use Rattle.agg_segment.specs.declared.storage.document.FieldValue.{FieldValue}
use Rattle.agg_pages.specs.generator.Draws.{draw, state_after}
use Rattle.agg_pages.specs.generator.Documents.{generated_document, generated_documents}
use Rattle.agg_pages.specs.generator.Documents.{generated_segment, generated_values, values_drawn}
use Rattle.agg_pages.proofs.lemmas.generator.States.{draw-state_after}

-- a draw after those of some documents, by its place among all
draw_at : (first seed at place : ℕ) → 3 * first + at ≡ place
    → draw (state_after (3 * first) seed) at ≡ draw seed place
draw_at first seed at place is =
    draw-state_after (3 * first) seed at ∙ ap (draw seed) is

-- the values of the same draws
values_drawn_same : (a b d a' b' d' : ℕ) → a ≡ a' → b ≡ b' → d ≡ d'
    → values_drawn a b d ≡ values_drawn a' b' d'
values_drawn_same a b d a' b' d' same_a same_b same_d =
    ap (λ n. values_drawn n b d) same_a
    ∙ ap (λ n. values_drawn a' n d) same_b
    ∙ ap (λ n. values_drawn a' b' n) same_d

-- a document after some others
pub generated_document-state_after : (first seed place : ℕ)
    → generated_document (state_after (3 * first) seed) place
    ≡ generated_document seed (first + place)
generated_document-state_after first seed place =
    ap meaning (values_drawn_same _ _ _ _ _ _
    (draw_at first seed (3 * place) (3 * (first + place)) (omega arith))
    (draw_at first seed (3 * place + 1) (3 * (first + place) + 1) (omega arith))
    (draw_at first seed (3 * place + 2) (3 * (first + place) + 2) (omega arith)))

-- there are so many documents
pub length-generated_documents : (seed first count : ℕ)
    → length (generated_documents seed first count) ≡ count
unfolding generated_documents
length-generated_documents seed first count =
    length-map-range_with_len (generated_document seed) first count

-- one more document
pub generated_documents_more : (seed first count : ℕ)
    → generated_documents seed first (count + 1)
    ≡ generated_documents seed first count ++ generated_document seed (first + count) ∷ []
unfolding generated_documents
generated_documents_more seed first count =
    map-range_with_len_more (generated_document seed) first count (first + count) refl

-- documents after some others
pub generated_documents-state_after : (first seed place count : ℕ)
    → generated_documents (state_after (3 * first) seed) place count
    ≡ generated_documents seed (first + place) count
unfolding generated_documents
generated_documents-state_after first seed place zero = refl
generated_documents-state_after first seed place (suc count) =
    ap (λ (d : Fields). d ∷ generated_documents (state_after (3 * first) seed) (place + 1) count)
    (generated_document-state_after first seed place)
    ∙ ap (λ ds. generated_document seed (first + place) ∷ ds)
    (generated_documents-state_after first seed (place + 1) count
    ∙ ap (λ n. generated_documents seed n count) (sym (add_assoc first place 1)))

-- the next document stands after those before it
pub generated_documents_next : (seed count state : ℕ) (values : List (List ℕ × FieldValue))
    (documents : List Fields) → state ≡ state_after (3 * count) seed
    → values ≡ generated_values state 0 → documents ≡ generated_documents seed 0 count
    → documents ++ meaning values ∷ [] ≡ generated_documents seed 0 (count + 1)
generated_documents_next seed count state values documents at drawn before =
    let next : meaning values ≡ generated_document seed (0 + count) =
    ap meaning drawn ∙ ap (λ s. generated_document s 0) at
    ∙ generated_document-state_after count seed 0 ∙ ap (generated_document seed) (omega arith)
    in
    ap (λ ds. ds ++ meaning values ∷ []) before
    ∙ ap (λ (d : Fields). generated_documents seed 0 count ++ d ∷ []) next
    ∙ sym (generated_documents_more seed 0 count)

-- a segment that is drawn after some others
pub generated_segment_state : (seed place state : ℕ)
    → state ≡ state_after (3 * (1_024 * place)) seed
    → generated_documents state 0 1_024 ≡ generated_segment seed place
generated_segment_state seed place state at =
    ap (λ s. generated_documents s 0 1_024) at
    ∙ generated_documents-state_after (1_024 * place) seed 0 1_024
    ∙ ap (λ n. generated_documents seed n 1_024) (add-zero (1_024 * place))
