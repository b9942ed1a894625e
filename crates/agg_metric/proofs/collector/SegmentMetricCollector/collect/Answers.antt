use Rattle.std.proofs.Common.{ap, length, arith}
use Rattle.agg_metric.proofs.VisitsTaken.{visits-many, visits-taken}
use Rattle.agg_metric.proofs.collector.SegmentMetricCollector.collect.Goals as goal

pub returns-in_err-take_documents-clause-too_many :
    goal.returns-in_err-take_documents-clause-too_many
returns-in_err-take_documents-clause-too_many c = rw (← c.self.view_is)
    (λ segment req visited f e.
    visits-many segment req _ visited f c.args.parent_bucket_id c.args.docs.now
    (omega (arith, ap (λ collector. length collector.metrics) c.self.view_is, c.requires.parent))
    c.index_mut-metric.result.now c.index_mut-metric.ensures.value
    c.in_err-take_documents.ensures.err)

pub returns-clause-visits : goal.returns-clause-visits
returns-clause-visits c = rw (← c.self.view_is)
    (visits-taken _ c.args.parent_bucket_id c.args.docs.now c.index_mut-metric.result.now
    c.take_documents.new.metric
    (omega (arith, ap (λ collector. length collector.metrics) c.self.view_is, c.requires.parent))
    c.index_mut-metric.ensures.value c.in_ok-take_documents.ensures.ok)
