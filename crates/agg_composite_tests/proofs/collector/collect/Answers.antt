use Rattle.std.proofs.Common.{◌++◌}
use Rattle.agg_composite.specs.Visits.{visits_past}
use Rattle.agg_composite_tests.proofs.collector.collect.Goals as goal

pub returns-clause-right : goal.returns-clause-right
returns-clause-right g c =
    let right = c.requires.right in
    let fits = c.requires.fits in
    let typed = visits_past c.args.req.now.req.now.sources fits.0 fits.1 c.args.parent
    c.args.docs.now in
    let answers = c.in_ok-collect.ensures.visits fits.0 fits.1 fits.2 in
    (right.0 ++ typed, right.1, answers.ok.takes right.0 right.1 right.2)
