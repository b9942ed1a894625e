use Rattle.agg_composite.proofs.lemmas.accessor.LeastValues.{least-more, least-whole}
use Rattle.agg_composite.proofs.accessor.accessor.least.places_of.Goals as goal

pub loop-accessor-preserved : goal.loop-accessor-preserved
loop-accessor-preserved c =
    least-more c.args.least.now c.args.accessors.now c.loop-accessor.accessor-index
    c.accessor-item.result c.loop-accessor.places.items c.place_of.result
    c.push.new.self.items c.loop-accessor-test.true c.accessor-item.is
    c.in_ok-push.ensures.items c.loop-accessor.invariant c.place_of.ensures

pub returns : goal.returns
returns c =
    least-whole c.args.least.now c.args.accessors.now c.loop-accessor.accessor-index
    c.loop-accessor.places.items c.from_vec.result c.loop-accessor-test.false c.from_vec.ensures
    c.loop-accessor.invariant
