-- Results that have buckets.
use Rattle.agg_results.specs.declared.intermediate_results as declared
use declared.results.IntermediateAggregationResult.TheViews.{outs-Composite, outs-Filter}
use Rattle.agg_results.proofs.lemmas.intermediate_results.BucketParts.{composite-done}
use Rattle.agg_results.proofs.lemmas.intermediate_results.BucketParts.{composite-parts}
use Rattle.agg_results.proofs.lemmas.intermediate_results.BucketParts.{filters-done, filters-merge}
use Rattle.agg_results.proofs.intermediate_results.+merging.Goals as goal

pub filters-ok : goal.merged::merge_buckets-returns-in_ok-merge_all-in-Filter-Filter-clause-ok
filters-ok t c =
    let below = rw (
      c.in-Filter-Filter.is-0,
      outs-Filter c.in-Filter-Filter.doc_count
          c.in-Filter-Filter.sub_aggregations,
    ) at c.in_ok-merge_all-in-Filter-Filter.ensures.ok in
    filters-merge c.args.left c.args.right c.in-Filter-Filter.doc_count c.in-Filter-Filter.more
    c.in-Filter-Filter.sub_aggregations c.in-Filter-Filter.others c.in-Filter-Filter.is-0
    c.in-Filter-Filter.is-1 c.args.passed.now c.add_counts-doc_count.new.passed
    c.merge_all.new.passed c.add_counts-doc_count.ensures.merges
    below

pub filters-merged
    : goal.merged::merge_buckets-returns-in_ok-merge_all-in-Filter-Filter-clause-merged
filters-merged t c =
    let below = rw (
      c.in-Filter-Filter.is-0,
      outs-Filter c.in-Filter-Filter.doc_count
          c.in-Filter-Filter.sub_aggregations,
    ) at c.in_ok-merge_all-in-Filter-Filter.ensures.ok in
    let done = rw (
      c.in-Filter-Filter.is-0,
      outs-Filter c.in-Filter-Filter.doc_count
          c.in-Filter-Filter.sub_aggregations,
    ) at c.in_ok-merge_all-in-Filter-Filter.ensures.merged in
    filters-done c.args.left c.args.right c.in-Filter-Filter.doc_count c.in-Filter-Filter.more
    c.in-Filter-Filter.sub_aggregations c.in-Filter-Filter.others c.in-Filter-Filter.is-0
    c.in-Filter-Filter.is-1 c.args.passed.now c.add_counts-doc_count.new.passed
    c.merge_all.new.passed c.add_counts-doc_count.ensures.merges
    below
    c.add_counts-doc_count.result c.merge_all.new.self c.add_counts-doc_count.ensures.sum done

pub composites-ok
    : goal.merged::merge_buckets-returns-in_ok-buckets-in-Composite-Composite-clause-ok
composites-ok t c =
    let below = rw (c.in-Composite-Composite.is-0, outs-Composite c.in-Composite-Composite.buckets)
    at c.in_ok-buckets-in-Composite-Composite.ensures.ok in
    composite-parts c.args.left c.args.right c.in-Composite-Composite.buckets
    c.in-Composite-Composite.others
    c.in-Composite-Composite.is-0 c.in-Composite-Composite.is-1
    c.args.passed.now c.merged_with.new.passed below

pub composites-merged
    : goal.merged::merge_buckets-returns-in_ok-buckets-in-Composite-Composite-clause-merged
composites-merged t c =
    let below = rw (c.in-Composite-Composite.is-0, outs-Composite c.in-Composite-Composite.buckets)
    at c.in_ok-buckets-in-Composite-Composite.ensures.merged in
    λ nay. composite-done c.args.left c.args.right c.in-Composite-Composite.buckets
    c.in-Composite-Composite.others
    c.in-Composite-Composite.is-0 c.in-Composite-Composite.is-1
    c.in_ok-buckets-in-Composite-Composite.buckets (below nay)
