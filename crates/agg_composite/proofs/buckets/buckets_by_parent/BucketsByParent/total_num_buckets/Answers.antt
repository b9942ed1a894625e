use Rattle.std.proofs.Common.{arith}
use Rattle.agg_composite.proofs.buckets.buckets_by_parent.BucketsByParent.total_num_buckets.Goals
    as goal

pub returns-clause-few : goal.returns-clause-few
returns-clause-few g c =
    let counts = c.self.invariant.1 in
    omega (arith, counts.few, counts.fits)
