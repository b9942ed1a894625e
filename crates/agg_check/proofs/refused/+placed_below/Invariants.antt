use Rattle.std.proofs.Common.{length}
use Rattle.agg_check.proofs.refused.+placed_below.Given as goal

abbrev pub decreases-placed_below : goal.decreases-placed_below
decreases-placed_below l = length l.names.now
