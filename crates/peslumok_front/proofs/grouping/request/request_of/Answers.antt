use Rattle.peslumok_front.proofs.lemmas.grouping.AskedRequests.{with_total, without_total}
use Rattle.peslumok_front.proofs.grouping.request.request_of.Goals as goal
use goal.{else-grouping, then-grouping+in_ok-put_total}

pub returns-clause-asked : goal.returns-clause-asked
returns-clause-asked g c = elim c.if-grouping.branch [
  | then-grouping+in_ok-put_total w ↦ with_total {B = g.row.B.Denot} c.args.grouping.now
      c.args.page c.new-request.result c.put_groups.new.request c.if-grouping.request
      w.if-grouping.true c.new-request.ensures c.in_ok-put_groups.ensures.asked
      (rw w.request-is w.in_ok-put_total.ensures)
  | else-grouping w ↦ without_total {B = g.row.B.Denot} c.args.grouping.now c.args.page
      c.new-request.result c.if-grouping.request w.if-grouping.false c.new-request.ensures
      (rw w.request-is c.in_ok-put_groups.ensures.asked)
]
