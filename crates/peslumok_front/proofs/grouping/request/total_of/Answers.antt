use Rattle.peslumok_front.proofs.lemmas.grouping.AskedRequests.{total-made}
use Rattle.peslumok_front.proofs.grouping.request.total_of.Goals as goal

pub returns : goal.returns
returns g c =
    total-made {B = g.row.B.Denot} c.args.grouping.now c.of-all.result c.deref.result.now
    c.in_ok-sub_aggregation.sub_aggregation c.of-all.ensures c.deref.ensures.value
    c.in_ok-sub_aggregation.ensures
