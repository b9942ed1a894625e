use Rattle.std.proofs.Common.{◌≡◌, ◌++◌, ◌∷◌, [], ◌+◌, ap, sym, ◌∙◌, arith}
use Rattle.std.specs.List.{range_with_len}
use Rattle.agg_segment.proofs.lemmas.storage.Layouts.{range_more}
use Rattle.agg_segment.proofs.storage.rows.growing.all_docs.Goals as goal

pub loop-doc-preserved : goal.loop-doc-preserved
loop-doc-preserved c =
    let at = c.loop-doc.doc in
    let same : c.in_ok-doc.doc ≡ 0 + at = omega (arith, c.in_ok-doc.ensures) in
    c.in_ok-push.ensures.items
    ∙ ap (λ ds. ds ++ c.in_ok-doc.doc ∷ []) c.loop-doc.invariant
    ∙ ap (λ d. range_with_len 0 at ++ d ∷ []) same ∙ sym (range_more 0 at)
