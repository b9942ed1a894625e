mod Buckets
mod Composites
mod Kinds
mod Lists
mod Names
mod Steps
use Rattle.agg_results.proofs.intermediate_results.+merging.Goals as goal
use Rattle.agg_results.proofs.intermediate_results.+merging.Answers.Buckets as buckets
use Rattle.agg_results.proofs.intermediate_results.+merging.Answers.Composites as composite
use Rattle.agg_results.proofs.intermediate_results.+merging.Answers.Kinds as kinds
use Rattle.agg_results.proofs.intermediate_results.+merging.Answers.Lists as lists
use Rattle.agg_results.proofs.intermediate_results.+merging.Answers.Names as by_name
use Rattle.agg_results.proofs.intermediate_results.+merging.Answers.Steps as steps

pub composite::IntermediateCompositeBucketResult::merged_with-merge_lists-requires :
    goal.composite::IntermediateCompositeBucketResult::merged_with-merge_lists-requires
composite::IntermediateCompositeBucketResult::merged_with-merge_lists-requires =
    composite.lists-requires

pub composite::IntermediateCompositeBucketResult::merged_with-from_parts-requires :
    goal.composite::IntermediateCompositeBucketResult::merged_with-from_parts-requires
composite::IntermediateCompositeBucketResult::merged_with-from_parts-requires =
    composite.parts-requires

pub composite::IntermediateCompositeBucketResult::merged_with-returns-clause-ok :
    goal.composite::IntermediateCompositeBucketResult::merged_with-returns-clause-ok
composite::IntermediateCompositeBucketResult::merged_with-returns-clause-ok = composite.ok

pub composite::IntermediateCompositeBucketResult::merged_with-returns-clause-merged :
    goal.composite::IntermediateCompositeBucketResult::merged_with-returns-clause-merged
composite::IntermediateCompositeBucketResult::merged_with-returns-clause-merged = composite.merged

pub merging::merge_lists-returns-then-is_below-clause-ok :
    goal.merging::merge_lists-returns-then-is_below-clause-ok
merging::merge_lists-returns-then-is_below-clause-ok = lists.right-ok

pub merging::merge_lists-returns-then-is_below-clause-merged :
    goal.merging::merge_lists-returns-then-is_below-clause-merged
merging::merge_lists-returns-then-is_below-clause-merged = lists.right-merged

pub merging::merge_lists-returns-then-is_below-2-clause-ok :
    goal.merging::merge_lists-returns-then-is_below-2-clause-ok
merging::merge_lists-returns-then-is_below-2-clause-ok = lists.left-ok

pub merging::merge_lists-returns-then-is_below-2-clause-merged :
    goal.merging::merge_lists-returns-then-is_below-2-clause-merged
merging::merge_lists-returns-then-is_below-2-clause-merged = lists.left-merged

pub merging::merge_lists-returns-clause-ok :
    goal.merging::merge_lists-returns-clause-ok
merging::merge_lists-returns-clause-ok = lists.ok

pub merging::merge_lists-returns-clause-merged :
    goal.merging::merge_lists-returns-clause-merged
merging::merge_lists-returns-clause-merged = lists.merged

pub merging::merge_ascending-loop-order-smaller-in-Continue-branch-2 :
    goal.merging::merge_ascending-loop-order-smaller-in-Continue-branch-2
merging::merge_ascending-loop-order-smaller-in-Continue-branch-2 = steps.left-smaller

pub merging::merge_ascending-loop-order-preserved-in-Continue-branch-2 :
    goal.merging::merge_ascending-loop-order-preserved-in-Continue-branch-2
merging::merge_ascending-loop-order-preserved-in-Continue-branch-2 = steps.left-preserved

pub merging::merge_ascending-loop-order-smaller-in-Continue-branch-3 :
    goal.merging::merge_ascending-loop-order-smaller-in-Continue-branch-3
merging::merge_ascending-loop-order-smaller-in-Continue-branch-3 = steps.right-smaller

pub merging::merge_ascending-loop-order-preserved-in-Continue-branch-3 :
    goal.merging::merge_ascending-loop-order-preserved-in-Continue-branch-3
merging::merge_ascending-loop-order-preserved-in-Continue-branch-3 = steps.right-preserved

pub merging::merge_ascending-loop-order-smaller :
    goal.merging::merge_ascending-loop-order-smaller
merging::merge_ascending-loop-order-smaller = steps.both-smaller

pub merging::merge_ascending-loop-order-preserved :
    goal.merging::merge_ascending-loop-order-preserved
merging::merge_ascending-loop-order-preserved = steps.both-preserved

pub merging::merge_ascending-returns-in_err-move_both-in-Equal-clause-mismatch :
    goal.merging::merge_ascending-returns-in_err-move_both-in-Equal-clause-mismatch
merging::merge_ascending-returns-in_err-move_both-in-Equal-clause-mismatch = steps.mismatch

pub merging::merge_ascending-returns-clause-merged :
    goal.merging::merge_ascending-returns-clause-merged
merging::merge_ascending-returns-clause-merged = steps.merged

pub merging::move_both-returns-clause-ok :
    goal.merging::move_both-returns-clause-ok
merging::move_both-returns-clause-ok = steps.both-ok

pub merging::move_both-returns-clause-merged :
    goal.merging::move_both-returns-clause-merged
merging::move_both-returns-clause-merged = steps.both-merged

pub results::IntermediateAggregationResults::merge_all-loop-name-init :
    goal.results::IntermediateAggregationResults::merge_all-loop-name-init
results::IntermediateAggregationResults::merge_all-loop-name-init = by_name.init

pub results::IntermediateAggregationResults::merge_all-put_over-requires :
    goal.results::IntermediateAggregationResults::merge_all-put_over-requires
results::IntermediateAggregationResults::merge_all-put_over-requires = by_name.put-requires

pub results::IntermediateAggregationResults::merge_all-loop-name-preserved-in-Continue-branch-2 :
    goal.results::IntermediateAggregationResults::merge_all-loop-name-preserved-in-Continue-branch-2
results::IntermediateAggregationResults::merge_all-loop-name-preserved-in-Continue-branch-2 =
    by_name.put-preserved

pub results::IntermediateAggregationResults::merge_all-loop-name-preserved :
    goal.results::IntermediateAggregationResults::merge_all-loop-name-preserved
results::IntermediateAggregationResults::merge_all-loop-name-preserved = by_name.none-preserved

pub results::IntermediateAggregationResults::merge_all-returns-clause-merged :
    goal.results::IntermediateAggregationResults::merge_all-returns-clause-merged
results::IntermediateAggregationResults::merge_all-returns-clause-merged = by_name.all-merged

pub results::IntermediateAggregationResults::put_over-returns-clause-ok :
    goal.results::IntermediateAggregationResults::put_over-returns-clause-ok
results::IntermediateAggregationResults::put_over-returns-clause-ok = by_name.put-ok

pub merged::merge_buckets-returns-in_ok-merge_all-in-Filter-Filter-clause-ok :
    goal.merged::merge_buckets-returns-in_ok-merge_all-in-Filter-Filter-clause-ok
merged::merge_buckets-returns-in_ok-merge_all-in-Filter-Filter-clause-ok = buckets.filters-ok

pub merged::merge_buckets-returns-in_ok-merge_all-in-Filter-Filter-clause-merged :
    goal.merged::merge_buckets-returns-in_ok-merge_all-in-Filter-Filter-clause-merged
merged::merge_buckets-returns-in_ok-merge_all-in-Filter-Filter-clause-merged =
    buckets.filters-merged

pub merged::merge_buckets-returns-in_ok-buckets-in-Composite-Composite-clause-ok :
    goal.merged::merge_buckets-returns-in_ok-buckets-in-Composite-Composite-clause-ok
merged::merge_buckets-returns-in_ok-buckets-in-Composite-Composite-clause-ok = buckets.composites-ok

pub merged::merge_buckets-returns-in_ok-buckets-in-Composite-Composite-clause-merged :
    goal.merged::merge_buckets-returns-in_ok-buckets-in-Composite-Composite-clause-merged
merged::merge_buckets-returns-in_ok-buckets-in-Composite-Composite-clause-merged =
    buckets.composites-merged

pub merged::merge_results-merge_buckets-requires : goal.merged::merge_results-merge_buckets-requires
merged::merge_results-merge_buckets-requires = kinds.requires

pub merged::merge_results-returns-in_err-merge_buckets-in-Bucket-clause-mismatch :
    goal.merged::merge_results-returns-in_err-merge_buckets-in-Bucket-clause-mismatch
merged::merge_results-returns-in_err-merge_buckets-in-Bucket-clause-mismatch = kinds.mismatch

pub merged::merge_results-returns-in-Metric-clause-merged :
    goal.merged::merge_results-returns-in-Metric-clause-merged
merged::merge_results-returns-in-Metric-clause-merged = kinds.metric-merged

pub merged::merge_results-returns-in_ok-merge_buckets-in-Bucket-clause-ok :
    goal.merged::merge_results-returns-in_ok-merge_buckets-in-Bucket-clause-ok
merged::merge_results-returns-in_ok-merge_buckets-in-Bucket-clause-ok = kinds.buckets-ok

pub merged::merge_results-returns-in_ok-merge_buckets-in-Bucket-clause-merged :
    goal.merged::merge_results-returns-in_ok-merge_buckets-in-Bucket-clause-merged
merged::merge_results-returns-in_ok-merge_buckets-in-Bucket-clause-merged = kinds.buckets-merged
