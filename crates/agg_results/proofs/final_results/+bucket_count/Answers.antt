use Rattle.std.proofs.Common.{ap, map, arith}
use Rattle.std.specs.Prelude.{sum}
use Rattle.std.proofs.lemmas.List.{at_drop_all}
use Rattle.agg_results.specs.final_results.BucketCount.{entry_buckets, result_buckets}
use Rattle.agg_results.proofs.final_results.+bucket_count.Goals as goal

pub types::AggregationResults::get_bucket_count-returns :
    goal.types::AggregationResults::get_bucket_count-returns
types::AggregationResults::get_bucket_count-returns t c =
    omega (
      arith,
      c.loop-result.invariant.0,
      c.loop-result.invariant.1,
      ap (λ left. sum (map (λ r. result_buckets r.1) left)) c.in-None.ensures.steps.0,
    )

pub bucket_count::count_with_inner-returns : goal.bucket_count::count_with_inner-returns
bucket_count::count_with_inner-returns t c =
    omega (
      arith,
      c.loop-bucket.invariant.0,
      c.loop-bucket.invariant.1,
      at_drop_all (λ left. sum (map entry_buckets left)) c.args.buckets.now
          c.loop-bucket.bucket-index (omega arith),
    )
