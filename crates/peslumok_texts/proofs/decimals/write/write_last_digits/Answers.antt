use Rattle.std.proofs.Common.{◌<◌, ◌/◌, ◌%◌, ◌++◌, string_bytes, arith, ap}
use Rattle.peslumok_texts.specs.decimals.Decimal.{last_digits}
use Rattle.peslumok_texts.proofs.lemmas.decimals.Digits.{digit_written}
use Rattle.peslumok_texts.proofs.decimals.write.write_last_digits.Goals as goal

pub loop-written-preserved : goal.loop-written-preserved
loop-written-preserved c =
    let less : c.loop-written.written < c.args.count = omega arith in
    let after = c.in_ok-write_digit.ensures in
    let digit = ap (λ u. c.args.number / u % 10) c.unit.ensures.value in
    digit_written (string_bytes c.loop-written.out)
    (string_bytes c.args.out.now ++ last_digits c.args.count c.args.number)
    (string_bytes c.write_digit.new.out) c.args.count c.loop-written.written c.args.number
    (c.args.number / c.unit.result % 10)
    less digit after c.loop-written.invariant
