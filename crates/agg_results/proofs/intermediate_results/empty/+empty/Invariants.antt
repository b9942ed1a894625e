use Rattle.std.proofs.Common.{◌+◌, ◌*◌}
use Rattle.agg_request_tree.proofs.RequestTrees.{height, levels}
use Rattle.agg_results.proofs.lemmas.intermediate_results.EmptyResults.{AreMadeUpTo}
use Rattle.agg_results.proofs.intermediate_results.empty.+empty.Given as goal

abbrev pub decreases-empty_results : goal.decreases-empty_results
decreases-empty_results g l = 2 * levels l.aggs.now + 1

abbrev pub decreases-empty_result : goal.decreases-empty_result
decreases-empty_result g l = 2 * height l.aggregation.now

abbrev pub invariant-empty_results-loop-name : goal.invariant-empty_results-loop-name
invariant-empty_results-loop-name g l = AreMadeUpTo l.aggs l.name-iterator l.results
