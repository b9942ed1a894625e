use Rattle.peslumok_front.proofs.lemmas.after_text.Passed.{cause-passed}
use Rattle.peslumok_front.proofs.lemmas.front.NoTexts.{sink-weaker}
use Rattle.peslumok_front.proofs.front.top.write_top.Goals as goal

pub returns-in_err-most-clause-cause : goal.returns-in_err-most-clause-cause
returns-in_err-most-clause-cause g c =
    let question = c.args.question.now in
    cause-passed _ c.from_residual-in_err-most.result _ c.from_residual-in_err-most.ensures.1
    (λ documents are. sink-weaker question.asked.now question.query.now documents ⊥ _
    c.in_err-most.field-0.0 (λ none. absurd none) (c.in_err-most.ensures.cause documents are))
