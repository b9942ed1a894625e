use Rattle.peslumok_front.proofs.lemmas.front.Rows.{group-more}
use Rattle.peslumok_front.proofs.front.written.rows_of_groups.Goals as goal

pub loop-group-preserved : goal.loop-group-preserved
loop-group-preserved c =
    group-more c.args.columns.now c.args.groups.now c.loop-group.group-index c.group-item.result
    c.loop-group.rows.items _ c.in_ok-row.row c.loop-group-test.true c.group-item.is
    c.in_ok-push.ensures.items
    (record { kind = c.in_ok-row.ensures.kind; cells = c.in_ok-row.ensures.cells })
    c.loop-group.invariant
