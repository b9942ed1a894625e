use Rattle.std.proofs.Common.{◌+◌, ◌*◌, length}
use Rattle.agg_values.specs.KeyOrder.{tuple_order}
use Rattle.agg_results.specs.intermediate_results.Intermediate.{below_entry, entries_of}
use Rattle.agg_results.specs.intermediate_results.Intermediate.{parts_of_bucket}
use Rattle.agg_results.proofs.lemmas.intermediate_results.AscendingLists.{Underway}
use Rattle.agg_results.proofs.lemmas.intermediate_results.Levels.{entries_levels, height, levels}
use Rattle.agg_results.proofs.lemmas.intermediate_results.Levels.{parts_height}
use Rattle.agg_results.proofs.lemmas.intermediate_results.Names.{Pushing}
use Rattle.agg_results.proofs.intermediate_results.+merging.Given as goal

abbrev pub decreases-composite::IntermediateCompositeBucketResult::merged_with :
    goal.decreases-composite::IntermediateCompositeBucketResult::merged_with
decreases-composite::IntermediateCompositeBucketResult::merged_with l =
    9 * entries_levels (entries_of l.other) + 8

abbrev pub decreases-entry::IntermediateTermBucketEntry::merge_all :
    goal.decreases-entry::IntermediateTermBucketEntry::merge_all
decreases-entry::IntermediateTermBucketEntry::merge_all l = 9 * levels (below_entry l.other) + 4

abbrev pub decreases-merging::merge_ascending : goal.decreases-merging::merge_ascending
decreases-merging::merge_ascending l = 9 * entries_levels l.right.items + 6

abbrev pub decreases-merging::merge_lists : goal.decreases-merging::merge_lists
decreases-merging::merge_lists l = 9 * entries_levels l.right.items + 7

abbrev pub decreases-merging::move_both : goal.decreases-merging::move_both
decreases-merging::move_both l = 9 * entries_levels l.right.now.items + 5

abbrev pub decreases-merged::merge_results : goal.decreases-merged::merge_results
decreases-merged::merge_results l = 9 * height l.right + 1

abbrev pub decreases-results::IntermediateAggregationResults::merge_all :
    goal.decreases-results::IntermediateAggregationResults::merge_all
decreases-results::IntermediateAggregationResults::merge_all l = 9 * levels l.other.results + 3

abbrev pub decreases-results::IntermediateAggregationResults::put_over :
    goal.decreases-results::IntermediateAggregationResults::put_over
decreases-results::IntermediateAggregationResults::put_over l = 9 * height l.value + 2

abbrev pub decreases-merged::merge_buckets : goal.decreases-merged::merge_buckets
decreases-merged::merge_buckets l = 9 * parts_height (parts_of_bucket l.right)

abbrev pub invariant-merging::merge_ascending-loop-order :
    goal.invariant-merging::merge_ascending-loop-order
invariant-merging::merge_ascending-loop-order l =
    Underway (tuple_order l.orders) l.fn.left.items l.fn.right.items l.fn.passed
    l.left.items l.right.items l.whole.items l.passed

abbrev pub decreases-merging::merge_ascending-loop-order :
    goal.decreases-merging::merge_ascending-loop-order
decreases-merging::merge_ascending-loop-order l = length l.left.items + length l.right.items

abbrev pub invariant-results::IntermediateAggregationResults::merge_all-loop-name :
    goal.invariant-results::IntermediateAggregationResults::merge_all-loop-name
invariant-results::IntermediateAggregationResults::merge_all-loop-name l =
    Pushing l.fn.self.results l.fn.other.results l.fn.passed l.self.results l.others
    l.names.items l.passed

abbrev pub decreases-results::IntermediateAggregationResults::merge_all-loop-name :
    goal.decreases-results::IntermediateAggregationResults::merge_all-loop-name
decreases-results::IntermediateAggregationResults::merge_all-loop-name l = length l.names.items
