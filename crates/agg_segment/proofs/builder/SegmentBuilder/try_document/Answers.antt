use Rattle.std.proofs.Common.{◌≡◌, ◌∷◌, ◌++◌, [], length, sym, ap, subst, ◌∙◌, arith, rules}
use Rattle.std.proofs.lemmas.List.{nil_from_length}
use Rattle.std.proofs.lemmas.Result.{on_ok_weaker}
use Rattle.agg_segment.specs.storage.Document.{Fields, meaning}
use Rattle.agg_segment.specs.Segment.{gathered_documents, open_document}
use Rattle.agg_segment.specs.SegmentLimits.{IsMixed}
use Rattle.agg_segment.proofs.AddedValues.{add_all, add_all_is}
use Rattle.agg_segment.proofs.builder.SegmentBuilder.try_document.Goals as goal

pub returns-clause-ok : goal.returns-clause-ok
returns-clause-ok c =
    let l = c.loop-name in
    let none : length l.name-iterator.rest.items ≡ 0 =
    grind (arith, rules, c.in-None.ensures.steps.0) in
    let done = nil_from_length l.name-iterator.rest.items none in
    let document : open_document l.self ≡ meaning c.args.document =
    ap (λ ps. add_all ps (open_document l.self)) (sym done) ∙ l.invariant.added
    ∙ ap (add_all c.args.document) c.requires.opened ∙ add_all_is c.args.document
    in
    on_ok_weaker c.finish.result
    (λ is. is ∙ ap (λ ds. ds ++ open_document l.self ∷ []) l.invariant.documents
    ∙ ap (λ (d : Fields). gathered_documents c.args.self.now ++ d ∷ []) document)
    c.finish.ensures.ok

pub returns-clause-mixed : goal.returns-clause-mixed
returns-clause-mixed c is =
    let l = c.loop-name in
    let none : length l.name-iterator.rest.items ≡ 0 =
    grind (arith, rules, c.in-None.ensures.steps.0) in
    let done = nil_from_length l.name-iterator.rest.items none in
    let document : open_document l.self ≡ meaning c.args.document =
    ap (λ ps. add_all ps (open_document l.self)) (sym done) ∙ l.invariant.added
    ∙ ap (add_all c.args.document) c.requires.opened ∙ add_all_is c.args.document
    in
    subst IsMixed (ap (λ ds. ds ++ open_document l.self ∷ []) l.invariant.documents
    ∙ ap (λ (d : Fields). gathered_documents c.args.self.now ++ d ∷ []) document)
    (c.finish.ensures.mixed is)
