use Rattle.std.proofs.Common.{false, zip}
use Rattle.agg_engine_tree.specs.collector_tree.Tree.{held_of}
use Rattle.agg_engine.proofs.lemmas.collectors.GrownTrees.{growth-passed}
use Rattle.agg_engine.proofs.collectors.tree.SegmentCollectorTreeSegmentAggregationCollector
    as of_tree
use of_tree.collect_multiple.Goals as goal

pub returns-clause-cause : goal.returns-clause-cause
returns-clause-cause g c =
    growth-passed c.args.agg_data.now.per_request c.args.limits.now
    (zip c.args.bucket_ids.now c.args.docs.now) c.args.bucket_ids.now
    (held_of c.args.self.now) false (held_of c.hand_each.new.tree) c.args.steps.now
    c.hand_each.new.steps c.in_ok-hand_each.ensures.ok c.in_ok-before.before
    c.in_ok-before.ensures c.charge_growth.result c.charge_growth.ensures.cause
