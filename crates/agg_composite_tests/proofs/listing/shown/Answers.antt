use Rattle.agg_composite.proofs.BucketPages.{first-encoded}
use Rattle.agg_composite_tests.proofs.listing.shown.Goals as goal

pub loop-shown-preserved : goal.loop-shown-preserved
loop-shown-preserved c =
    let next = rw c.in-Some.is at c.in_ok-entry.ensures in
    (first-encoded c.args.req.now c.loop-shown.entries c.next_entry.new.self next.bucket next.split
    c.loop-shown.invariant).1
