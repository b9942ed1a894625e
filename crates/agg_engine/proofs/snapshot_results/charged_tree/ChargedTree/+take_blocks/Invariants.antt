use Rattle.std.proofs.Common.{length}
use Rattle.agg_engine.proofs.snapshot_results.charged_tree.ChargedTree.+take_blocks.Given as goal

abbrev pub decreases-take_blocks : goal.decreases-take_blocks
decreases-take_blocks g l = length l.docs.now
