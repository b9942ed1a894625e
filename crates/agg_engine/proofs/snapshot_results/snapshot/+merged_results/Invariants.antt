use Rattle.std.proofs.Common.{length}
use Rattle.agg_engine.proofs.snapshot_results.snapshot.+merged_results.Given as goal

abbrev pub decreases-merged_results : goal.decreases-merged_results
decreases-merged_results g l = length l.contexts.now
