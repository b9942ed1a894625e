use Rattle.agg_segment.proofs.Ordinals.{AreNumbered}
use Rattle.agg_segment.proofs.gatherings.dictionaries.number_places.Given as goal

abbrev pub invariant-loop-place : goal.invariant-loop-place
invariant-loop-place l = AreNumbered l.texts l.places l.place-index l.ordinals l.found.items
