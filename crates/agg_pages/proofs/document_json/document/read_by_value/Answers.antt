use Rattle.std.proofs.Common.{[], ◌∷◌, ◌++◌, Err, inl, inr, ap, subst}
use Rattle.std.proofs.lemmas.Result.{err_from_is_err_and}
use Rattle.agg_segment.specs.storage.Document.{meaning}
use Rattle.agg_segment.specs.Segment.{gathered_documents}
use Rattle.agg_segment.specs.SegmentLimits.{IsMixed}
use Rattle.agg_pages.proofs.lemmas.document_json.Documents.{IsDocumentLine-unique}
use Rattle.agg_pages.proofs.document_json.document.read_by_value.Goals as goal

pub returns-in_err-document-clause-not_input : goal.returns-in_err-document-clause-not_input
returns-in_err-document-clause-not_input c = λ refused document stands.
    let p = err_from_is_err_and c.from_residual.result c.from_residual.ensures.1 in
    absurd (c.in_err-document.ensures.not_input (cc (refused, p.1, p.2)) document stands)

pub returns-in_err-add_document-clause-not_input
    : goal.returns-in_err-add_document-clause-not_input
returns-in_err-add_document-clause-not_input c = λ refused document stands.
    let p = err_from_is_err_and c.from_residual-in_err-add_document.result
    c.from_residual-in_err-add_document.ensures.1 in
    elim (p.2.0 (cc (refused, p.1))) [
      | inl many ↦ inl (c.in_err-add_document.ensures.full.0 (ap Err many))
      | inr both ↦
          let same = IsDocumentLine-unique c.args.line.now (meaning c.in_ok-document.document)
          document c.in_ok-document.ensures.ok stands in
          inr (subst (λ d. IsMixed (gathered_documents c.args.builder.now ++ d ∷ [])) same
          (c.in_err-add_document.ensures.mixed (ap Err both)))
    ]
