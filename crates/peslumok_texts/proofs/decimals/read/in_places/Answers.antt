use Rattle.std.proofs.Common.{◌<◌, ◌-◌, length, subst}
use Rattle.peslumok_texts.specs.decimals.Decimal.{number_after}
use Rattle.peslumok_texts.proofs.lemmas.decimals.Digits.{too_large, too_large_after}
use Rattle.peslumok_texts.proofs.decimals.read.in_places.Goals as goal

pub returns-in_default : goal.returns-in_default
returns-in_default c =
    too_large 18446744073709551616 (c.args.places - length c.args.part.now) c.args.whole.now
    c.args.part.now c.in_default.ensures

pub returns-in_default-push_digits : goal.returns-in_default-push_digits
returns-in_default-push_digits c =
    too_large_after 18446744073709551616 (c.args.places - length c.args.part.now) c.args.whole.now
    c.args.part.now
    (subst (λ n. ¬ (number_after n c.args.part.now < 18446744073709551616)) c.in-Some.ensures.1
    c.in_default-push_digits.ensures)
