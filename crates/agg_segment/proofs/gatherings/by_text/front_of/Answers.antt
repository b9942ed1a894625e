use Rattle.std.proofs.Common.{arith}
use Rattle.agg_segment.proofs.Fronts.{front_short, front_next}
use Rattle.agg_segment.proofs.gatherings.by_text.front_of.Goals as goal

pub overflow_mul-front : goal.overflow_mul-front
overflow_mul-front c =
    let short = front_short c.loop-at.at c.as_bytes-bytes.result.now
    (λ i. omega (arith, c.type_inv.bytes i)) c.loop-at-test.true in
    omega (arith, c.loop-at.invariant, short)

pub overflow_add-front : goal.overflow_add-front
overflow_add-front c =
    let short = front_short c.loop-at.at c.as_bytes-bytes.result.now
    (λ i. omega (arith, c.type_inv.bytes i)) c.loop-at-test.true in
    omega (arith, c.loop-at.invariant, c.from.ensures, c.byte_or_zero.type_inv, short)

pub loop-at-preserved : goal.loop-at-preserved
loop-at-preserved c =
    let next = front_next c.loop-at.at c.as_bytes-bytes.result.now in
    omega (arith, c.loop-at.invariant, c.from.ensures, c.byte_or_zero.ensures, next)
