use Rattle.std.proofs.Common.{◌∷◌, [], false}
use Rattle.agg_cache.specs.Waiting.{under}
use Rattle.agg_engine_tree.specs.collector_tree.Tree.{held_of}
use Rattle.agg_engine.proofs.lemmas.collectors.GrownTrees.{growth-passed}
use Rattle.agg_engine.proofs.collectors.tree.SegmentCollectorTreeSegmentAggregationCollector
    as of_tree
use of_tree.collect.Goals as goal

pub returns-clause-cause : goal.returns-clause-cause
returns-clause-cause g c =
    growth-passed c.args.agg_data.now.per_request c.args.limits.now
    (under c.args.parent_bucket_id c.args.docs.now) (c.args.parent_bucket_id ∷ [])
    (held_of c.args.self.now) false (held_of c.hand.new.node) c.args.steps.now c.hand.new.steps
    c.in_ok-hand.ensures.ok c.in_ok-before.before c.in_ok-before.ensures c.charge_growth.result
    c.charge_growth.ensures.cause
