use Rattle.std.proofs.Common.{arith}
use Rattle.agg_pages.proofs.lemmas.document_json.PlainDigits.{first_digit, one_more_digit}
use Rattle.agg_pages.proofs.document_json.plain.digits.digits_from.Goals as goal

pub returns-then-n-eq0-clause-value : goal.returns-then-n-eq0-clause-value
returns-then-n-eq0-clause-value c =
    first_digit c.args.bytes.now c.args.from 0 (grind arith) (grind arith) (omega arith)

pub loop-i-init : goal.loop-i-init
loop-i-init c = (
  first_digit c.args.bytes.now c.args.from c.in_ok-first.first (grind arith) (grind arith)
      (grind arith),
  grind arith,
  grind arith,
)

pub loop-i-preserved : goal.loop-i-preserved
loop-i-preserved c =
    let l = c.loop-i in (
      rw c.in_ok-n.ensures (one_more_digit c.args.bytes.now c.args.from l.i l.n c.in-Some.next
          l.invariant.0 (grind arith) (grind arith) (grind arith) l.invariant.1 (grind arith)),
      grind arith,
      grind arith,
    )
