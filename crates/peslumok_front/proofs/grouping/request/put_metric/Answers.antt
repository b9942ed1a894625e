use Rattle.peslumok_front.proofs.lemmas.grouping.NamedMetrics.{metric-put}
use Rattle.peslumok_front.proofs.grouping.request.put_metric.Goals as goal

pub returns : goal.returns
returns g c =
    metric-put {B = g.row.B.Denot} c.args.metric.now c.args.below.now c.put.new.values
    c.in_ok-name.name c.in_ok-variant_of.field-0 c.new.result c.in_ok-put.ensures
    c.in_ok-name.ensures c.in_ok-variant_of.ensures c.new.ensures
