use Rattle.std.proofs.Common.{◌<◌, length, arith, subst}
use Rattle.peslumok_texts.proofs.lemmas.decimals.Digits.{stuck}
use Rattle.peslumok_texts.proofs.decimals.read.push_digits.Goals as goal

pub returns-in-None : goal.returns-in-None
returns-in-None c =
    let within : c.loop-digit.digit-index < length c.args.digits.now = omega arith in
    λ less. stuck _ _ _ _ within c.in-None.ensures
    (subst (λ n. n < 18446744073709551616) c.loop-digit.invariant.rest less)
