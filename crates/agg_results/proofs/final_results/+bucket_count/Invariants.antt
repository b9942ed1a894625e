use Rattle.std.proofs.Common.{◌≡◌, ◌+◌, ◌≤◌, drop, map, min}
use Rattle.std.specs.Prelude.{sum}
use Rattle.agg_results.specs.final_results.BucketCount.{entry_buckets, result_buckets}
use Rattle.agg_results.specs.final_results.BucketCount.{results_buckets}
use Rattle.agg_results.proofs.final_results.+bucket_count.Given as goal

-- the count so far with what is left is the whole, up to the greatest u64
abbrev pub invariant-types::AggregationResults::get_bucket_count-loop-result :
    goal.invariant-types::AggregationResults::get_bucket_count-loop-result
invariant-types::AggregationResults::get_bucket_count-loop-result l =
    (min (l.count + sum (map (λ r. result_buckets r.1) l.result-iterator)) 18446744073709551615
    ≡ min (results_buckets l.fn.self) 18446744073709551615)
    × (l.count ≤ 18446744073709551615)

-- likewise of the buckets
abbrev pub invariant-bucket_count::count_with_inner-loop-bucket :
    goal.invariant-bucket_count::count_with_inner-loop-bucket
invariant-bucket_count::count_with_inner-loop-bucket l =
    (min (l.count + sum (map entry_buckets (drop l.bucket-index l.buckets))) 18446744073709551615
    ≡ min (sum (map entry_buckets l.buckets)) 18446744073709551615)
    × (l.count ≤ 18446744073709551615)
