use Rattle.std.proofs.lemmas.Result.{on_ok_weaker}
use Rattle.agg_engine.proofs.collectors.tree.SegmentCollectorTreeSegmentAggregationCollector
    as of_tree
use of_tree.prepare_max_bucket.Goals as goal

pub returns-clause-ok : goal.returns-clause-ok
returns-clause-ok c =
    on_ok_weaker c.prepare.result (λ done. done c.args._agg_data.now.per_request)
    c.prepare.ensures.ok
