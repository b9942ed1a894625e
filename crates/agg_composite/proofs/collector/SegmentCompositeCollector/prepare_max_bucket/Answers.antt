use Rattle.agg_composite.specs.TupleBuckets.{node_of}
use Rattle.agg_composite.proofs.HeldTuples.{prepared-holds}
use Rattle.agg_composite.proofs.collector.SegmentCompositeCollector.prepare_max_bucket.Goals as goal

pub returns-clause-tuples : goal.returns-clause-tuples
returns-clause-tuples g c = rw (← c.self.view_is) (λ req held.
    prepared-holds req (node_of c.self.inside.buckets) (node_of c.prepare.new.self)
    c.prepare.ensures.same held)
