use Rattle.std.proofs.Common.{arith, sum_by}
use Rattle.std.proofs.lemmas.List.{at_drop_all}
use Rattle.agg_results.specs.final_results.BucketCount.{results_buckets}
use Rattle.agg_pages.proofs.output.bucket_count.Goals as goal

pub returns-in_default : goal.returns-in_default
returns-in_default c =
    omega (
      arith,
      c.loop-page.invariant.whole,
      c.loop-page.invariant.within,
      at_drop_all (sum_by results_buckets) c.args.pages.now c.loop-page.page-index (omega arith),
    )
