use Rattle.agg_composite.proofs.BucketPages.{first-encoded}
use Rattle.agg_composite_tests.proofs.charges.numbers_of.Goals as goal

pub loop-numbers-preserved : goal.loop-numbers-preserved
loop-numbers-preserved c =
    let next = rw c.in-Some.is at c.in_ok-entry.ensures in
    (first-encoded c.args.req.now c.loop-numbers.entries c.next_entry.new.self next.bucket
    next.split c.loop-numbers.invariant).1
