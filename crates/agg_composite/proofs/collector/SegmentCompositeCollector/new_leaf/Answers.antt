use Rattle.agg_composite.proofs.CollectorCalls.{new-for}
use Rattle.agg_composite.proofs.HeldTuples.{new-holds}
use Rattle.agg_composite.proofs.collector.SegmentCompositeCollector.new_leaf.Goals as goal

pub returns-clause-empty : goal.returns-clause-empty
returns-clause-empty g c = λ req.
    new-for g.C.SubAggCache.waiting req _ c.in_ok-new.ensures.empty c.new-2.ensures.empty

pub returns-clause-tuples : goal.returns-clause-tuples
returns-clause-tuples g c = λ req. new-holds req _ c.in_ok-new.ensures.empty
