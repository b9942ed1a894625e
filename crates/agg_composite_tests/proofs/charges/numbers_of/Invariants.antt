use Rattle.std.proofs.Common.{All, length}
use Rattle.std.specs.Map.{keys_of}
use Rattle.agg_composite.specs.accessor.Decoded.{IsEncoded}
use Rattle.agg_composite_tests.proofs.charges.numbers_of.Given as goal

-- the tuples that are still to come stand for tuples
abbrev pub invariant-loop-numbers : goal.invariant-loop-numbers
invariant-loop-numbers l = All (IsEncoded l.req) (keys_of l.entries)

abbrev pub decreases-loop-numbers : goal.decreases-loop-numbers
decreases-loop-numbers l = length l.entries
