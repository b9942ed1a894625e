use Rattle.agg_composite.proofs.CollectorCalls.{gives-ok}
use Rattle.agg_composite.proofs.collector.SegmentCompositeCollector.take.Goals as goal

pub returns-clause-ok : goal.returns-clause-ok
returns-clause-ok g c =
    gives-ok g.C.SubAggCache.waiting c.take.result _ c.args.self.now c.take.new.self c.self.view_is
    c.take.ensures.ok c.take.ensures.taken

pub returns-clause-tuples : goal.returns-clause-tuples
returns-clause-tuples g c = rw (← c.self.view_is) (λ req held. held)
