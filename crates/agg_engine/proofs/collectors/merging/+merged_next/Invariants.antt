use Rattle.agg_engine.proofs.collectors.merging.+merged_next.Given as goal

abbrev pub decreases-merged_next : goal.decreases-merged_next
decreases-merged_next l = l.count
