use Rattle.std.proofs.Common.{◌≡◌, ◌+◌, ◌≤◌, drop, min, sum_by}
use Rattle.agg_results.specs.final_results.BucketCount.{results_buckets}
use Rattle.agg_pages.proofs.output.bucket_count.Given as goal

-- the count so far with what is left is the whole, up to the greatest u64
abbrev pub invariant-loop-page : goal.invariant-loop-page
invariant-loop-page l = record {
  whole : min (l.count + sum_by results_buckets (drop l.page-index l.pages)) 18446744073709551615
      ≡ min (sum_by results_buckets l.pages) 18446744073709551615;
  within : l.count ≤ 18446744073709551615;
}
