use Rattle.std.proofs.Common.{Some, take}
use Rattle.agg_composite.specs.accessor.Least.{AreLeastIn}
use Rattle.agg_composite.proofs.accessor.accessor.least.places_of.Given as goal

-- the places for the accessors so far
abbrev pub invariant-loop-accessor : goal.invariant-loop-accessor
invariant-loop-accessor l =
    AreLeastIn (Some l.least) (take l.accessor-index l.accessors) l.places.items
