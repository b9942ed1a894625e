use Rattle.std.proofs.Common.{◌≡◌, ◌+◌, ℕ, [], ◌∷◌, ◌++◌, sym, ap, ◌∙◌, arith}
use Rattle.std.specs.List.{range_with_len}
use Rattle.std.proofs.lemmas.List.{map-id}
use Rattle.std.proofs.lemmas.List.FromFn.{map-range_with_len_more}
use Rattle.agg_engine.proofs.snapshot_results.matching.first_docs.Goals as goal

range-more : (n : ℕ) → range_with_len 0 (n + 1) ≡ range_with_len 0 n ++ n ∷ []
range-more n =
    sym (map-id (range_with_len 0 (n + 1)))
    ∙ map-range_with_len_more (λ x. x) 0 n n (omega arith)
    ∙ ap (λ xs. xs ++ n ∷ []) (map-id (range_with_len 0 n))

pub loop-doc-preserved : goal.loop-doc-preserved
loop-doc-preserved c =
    c.in_ok-push.ensures.items
    ∙ ap (λ docs. docs ++ c.loop-doc.doc ∷ []) c.loop-doc.invariant
    ∙ sym (range-more c.loop-doc.doc)
