use Rattle.std.proofs.Common.{All, length}
use Rattle.std.specs.Map.{keys_of}
use Rattle.agg_composite.specs.accessor.Decoded.{IsEncoded}
use Rattle.agg_composite_tests.proofs.listing.shown.Given as goal

abbrev pub invariant-loop-shown : goal.invariant-loop-shown
invariant-loop-shown l = All (IsEncoded l.req) (keys_of l.entries)

abbrev pub decreases-loop-shown : goal.decreases-loop-shown
decreases-loop-shown l = length l.entries
