use Rattle.agg_composite.proofs.KeptTuples.{visit-keeps}
use Rattle.agg_composite.proofs.walk.visit.Goals as goal

pub returns-clause-held : goal.returns-clause-held
returns-clause-held g c =
    visit-keeps c.args.tuple.now c.args.buckets.now c.visit.new.self c.visit.ensures.held
