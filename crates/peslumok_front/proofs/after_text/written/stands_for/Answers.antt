use Rattle.peslumok_front.proofs.lemmas.after_text.ReadKeys.{value-stands}
use Rattle.peslumok_front.proofs.after_text.written.stands_for.Goals as goal

pub returns-clause-back : goal.returns-clause-back
returns-clause-back c =
    value-stands c.args.text.now c.args.of.now c.args.key.now.0 c.is_value.result
    (c.in_ok-has_kind.ensures c.if-branch.false) c.is_value.ensures
