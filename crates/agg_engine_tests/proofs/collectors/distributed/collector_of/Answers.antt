use Rattle.agg_engine_tests.proofs.collectors.distributed.collector_of.Goals as goal

pub returns : goal.returns
returns g c =
    rw (c.from_aggs.ensures.agg, c.from_aggs.ensures.context) c.in_ok-context.ensures
