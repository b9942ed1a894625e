use Rattle.agg_composite.proofs.BucketPages.{page-encoded}
use Rattle.agg_composite_tests.proofs.collector.shown.Goals as goal

pub page-requires-clause-tuples : goal.page-requires-clause-tuples
page-requires-clause-tuples g c =
    let right = c.requires.right in
    λ parent.
    page-encoded g.C.SubAggCache.waiting c.args.req.now c.args.collector.now right.0 right.1 parent
    right.2
