use Rattle.std.proofs.lemmas.Result.{err_from_is_err_and}
use Rattle.peslumok_front.proofs.lemmas.grouping.Refusals.{condition_refused}
use Rattle.peslumok_front.proofs.grouping.query.trees_of.Goals as goal

pub returns-in_err-tree-clause-cause : goal.returns-in_err-tree-clause-cause
returns-in_err-tree-clause-cause c =
    let p = err_from_is_err_and c.from_residual.result c.from_residual.ensures.1 in
    rw (p.1, p.2) (condition_refused c.args.grouping.now c.in_err-tree.field-0.0
    c.deref-condition-items.result.now c.loop-condition.condition-index _
    c.deref-condition-items.ensures.value c.loop-condition-test.true c.in_err-tree.ensures.cause)
