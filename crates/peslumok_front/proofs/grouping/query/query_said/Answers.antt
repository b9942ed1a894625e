use Rattle.std.proofs.lemmas.Result.{err_from_is_err_and}
use Rattle.serde_json.specs.View.{view}
use Rattle.peslumok_front.proofs.lemmas.grouping.Refusals.{said_refused}
use Rattle.peslumok_front.proofs.grouping.query.query_said.Goals as goal

pub returns-in_err-read_query-clause-cause : goal.returns-in_err-read_query-clause-cause
returns-in_err-read_query-clause-cause c =
    let residual = c.from_residual-in_err-read_query in
    let p = err_from_is_err_and residual.result residual.ensures.1 in
    let read = c.read_query.ensures in
    rw (p.1, p.2) (said_refused c.args.text.now (view c.in_ok-value.value)
    c.in_err-read_query.field-0.0 c.read_query.result c.in_ok-value.ensures.value
    c.in_err-read_query.was read.unsupported read.none read.kinds)
