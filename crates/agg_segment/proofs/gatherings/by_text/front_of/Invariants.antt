use Rattle.std.proofs.Common.{◌≡◌}
use Rattle.agg_segment.specs.Fronts.{front_number}
use Rattle.agg_segment.proofs.gatherings.by_text.front_of.Given as goal

abbrev pub invariant-loop-at : goal.invariant-loop-at
invariant-loop-at l = l.front ≡ front_number l.at l.bytes
