use Rattle.agg_composite.proofs.lemmas.accessor.LeastValues.{place-least}
use Rattle.agg_composite.proofs.accessor.accessor.least.place_of.Goals as goal

pub returns : goal.returns
returns c =
    place-least c.args.accessor.now.column.now.keys c.args.least.now c.precompute.result
    c.precompute.ensures
