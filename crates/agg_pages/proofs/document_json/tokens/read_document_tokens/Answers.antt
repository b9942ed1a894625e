use Rattle.std.proofs.Common.{◌≡◌, [], ◌∷◌, ◌++◌, Err, inl, inr, ap, sym, ◌∙◌, subst, length, rules}
use Rattle.std.proofs.lemmas.Result.{err_from_is_err_and}
use Rattle.agg_segment.specs.Segment.{gathered_documents, open_document}
use Rattle.agg_segment.specs.SegmentLimits.{IsMixed}
use Rattle.agg_pages.specs.document_json.DocumentLine.{IsDocumentLine}
use Rattle.agg_pages.proofs.lemmas.document_json.Documents.{IsDocumentLine-unique}
use Rattle.agg_pages.proofs.document_json.tokens.read_document_tokens.Goals as goal

pub returns-in_err-finish-clause-not_input : goal.returns-in_err-finish-clause-not_input
returns-in_err-finish-clause-not_input c = λ refused document stands.
    let p = err_from_is_err_and c.from_residual-in_err-finish.result
    c.from_residual-in_err-finish.ensures.1 in
    let opened = c.open_line.new.builder in
    let kept : gathered_documents opened ≡ gathered_documents c.args.builder.now =
    c.in_ok-taken.ensures.documents in
    elim (p.2.0 (cc (refused, p.1))) [
      | inl many ↦ inl (sym (ap length kept) ∙ c.in_err-finish.ensures.full.0 (ap Err many))
      | inr both ↦
          let read : IsDocumentLine c.args.line.now (open_document opened) =
          c.in_ok-taken.ensures.taken (search rules) in
          let same = IsDocumentLine-unique c.args.line.now (open_document opened) document read
          stands in
          inr (subst (λ d. IsMixed (gathered_documents c.args.builder.now ++ d ∷ [])) same
          (subst (λ ds. IsMixed (ds ++ open_document opened ∷ [])) kept
          (c.in_err-finish.ensures.mixed (ap Err both))))
    ]
