use Rattle.std.proofs.Common.{[]}
use Rattle.agg_composite_tests.proofs.collector.collector_for.Goals as goal

pub returns-clause-right : goal.returns-clause-right
returns-clause-right g c =
    let req = c.args.req.now in (
      [],
      [],
      c.in_ok-prepare_max_bucket.ensures.right req [] []
          (c.in_ok-collector.ensures.empty req),
    )
