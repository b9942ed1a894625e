use Rattle.std.proofs.Common.{◌≡◌, take, map}
use Rattle.agg_segment.proofs.gatherings.by_text.places_in.Given as goal

abbrev pub invariant-loop-one : goal.invariant-loop-one
invariant-loop-one l = l.places.items ≡ map (λ k. k.place) (take l.one-index l.keyed)
