use Rattle.std.proofs.Common.{◌++◌}
use Rattle.std.proofs.lemmas.Result.{on_ok_weaker}
use Rattle.agg_composite.specs.Visits.{visits_past}
use Rattle.agg_composite_tests.proofs.charges.collect.Goals as goal

pub returns-clause-right : goal.returns-clause-right
returns-clause-right g c =
    let right = c.requires.right in
    let fits = c.requires.fits in
    let typed = visits_past c.args.req.now.req.now.sources fits.0 fits.1 0 c.args.docs.now in
    let answers = c.collect.ensures.visits fits.0 fits.1 fits.2 in
    on_ok_weaker c.collect.result
    (λ takes. (right.0 ++ typed, right.1, takes.takes right.0 right.1 right.2)) answers.ok
