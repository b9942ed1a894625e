use Rattle.peslumok_front.proofs.lemmas.grouping.AskedRequests.{groups-made}
use Rattle.peslumok_front.proofs.grouping.request.groups_of.Goals as goal

pub returns-clause-asked : goal.returns-clause-asked
returns-clause-asked g c =
    groups-made {B = g.row.B.Denot} c.args.grouping.now c.args.page c.in_ok-composite.composite
    c.deref.result.now c.in_ok-metrics_of.field-0 c.in_ok-composite.ensures.asked
    c.deref.ensures.value c.in_ok-metrics_of.ensures
