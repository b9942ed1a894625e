use Rattle.std.proofs.Common.{◌≡◌, ◌++◌, ◌-◌, string_bytes}
use Rattle.peslumok_texts.specs.decimals.Decimal.{last_digits}
use Rattle.peslumok_texts.proofs.decimals.write.write_last_digits.Given as goal

-- what is written and what is to come are all of them
abbrev pub invariant-loop-written : goal.invariant-loop-written
invariant-loop-written l =
    string_bytes l.out ++ last_digits (l.count - l.written) l.number
    ≡ string_bytes l.fn.out ++ last_digits l.fn.count l.fn.number
