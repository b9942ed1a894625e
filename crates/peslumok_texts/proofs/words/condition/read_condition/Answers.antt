use Rattle.std.proofs.Common.{lit<, sym}
use Rattle.peslumok_texts.proofs.lemmas.words.Signs.{more_after_question}
use Rattle.peslumok_texts.proofs.words.condition.read_condition.Goals as goal

pub returns-in-None-2-clause-cause : goal.returns-in-None-2-clause-cause
returns-in-None-2-clause-cause c =
    more_after_question c.args.text.now c.in-Some.field.now c.in-Some.rest.now
    c.in-Some.ensures (sym c.if-is_empty.ensures) c.in-None-2.ensures
    (sym (c.if-starts_with.ensures.byte (lit< tt) (lit< tt) (λ text found is. is)))
