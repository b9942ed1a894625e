use Rattle.std.proofs.Common.{◌≡◌, take, map}
use Rattle.std.specs.List.{All}
use Rattle.agg_segment.specs.Fronts.{IsKeyed}
use Rattle.agg_segment.proofs.gatherings.by_text.keyed_places.Given as goal

abbrev pub invariant-loop-place : goal.invariant-loop-place
invariant-loop-place l =
    (map (λ k. k.place) l.keyed.items ≡ take l.place-index l.fn.places.items)
    × All (IsKeyed l.texts) l.keyed.items
