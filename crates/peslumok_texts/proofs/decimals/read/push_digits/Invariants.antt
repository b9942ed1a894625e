use Rattle.std.proofs.Common.{◌≡◌, ◌<◌, ◌^◌, drop}
use Rattle.peslumok_texts.specs.decimals.Decimal.{number_after}
use Rattle.peslumok_texts.proofs.decimals.read.push_digits.Given as goal

-- what is still to come leads from the value so far to the number of all
abbrev pub invariant-loop-digit : goal.invariant-loop-digit
invariant-loop-digit l = record {
  fits : l.value < 2 ^ 64;
  rest : number_after l.fn.number l.fn.digits ≡ number_after l.value (drop l.digit-index l.digits);
}
