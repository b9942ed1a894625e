-- Results of any kind.
use Rattle.std.proofs.Common.{◌≡◌, false, sym, ap, ◌∙◌, subst, arith}
use Rattle.std.specs.Prelude.{IfOk}
use Rattle.agg_results.specs.declared.metric_results.error.MergeError.TheVariants.{Mismatch}
use Rattle.agg_results.proofs.lemmas.metric_results.Exits.{error-kept}
use Rattle.agg_results.specs.intermediate_results.Merging.{IsMerged}
use Rattle.agg_results.specs.declared.intermediate_results as declared
use declared.results.IntermediateAggregationResult.{IntermediateAggregationResult}
use Rattle.agg_results.proofs.lemmas.intermediate_results.BucketParts.{bucket-differ, bucket-merged}
use Rattle.agg_results.proofs.lemmas.intermediate_results.BucketParts.{bucket-merges}
use Rattle.agg_results.proofs.lemmas.intermediate_results.Levels.{height, height-bucket}
use Rattle.agg_results.proofs.intermediate_results.+merging.Goals as goal

pub requires : goal.merged::merge_results-merge_buckets-requires
requires t c =
    let same = ap height c.in-Some.ensures.some ∙ height-bucket c.in-Some.more in
    (omega (arith, c.decreases, same), tt)

pub mismatch : goal.merged::merge_results-returns-in_err-merge_buckets-in-Bucket-clause-mismatch
mismatch t c =
    λ is.
    let was = error-kept c.from_residual.result c.in_err-merge_buckets-in-Bucket.field-0.0 Mismatch
    c.from_residual.ensures.1 is in
    bucket-differ c.args.left c.args.right c.in-Bucket.held c.in-Some.more c.in-Bucket.is
    c.in-Some.ensures.some (c.in_err-merge_buckets-in-Bucket.ensures.mismatch was)

pub metric-merged : goal.merged::merge_results-returns-in-Metric-clause-merged
metric-merged t c =
    subst (λ (r : IntermediateAggregationResult). IfOk c.merge_metric.result
    (λ w. c.merge_metric.new.passed ≡ false → IsMerged r c.args.right w)) (sym c.in-Metric.is)
    c.merge_metric.ensures.merged

pub buckets-ok : goal.merged::merge_results-returns-in_ok-merge_buckets-in-Bucket-clause-ok
buckets-ok t c =
    bucket-merges c.args.left c.args.right c.in-Bucket.held c.in-Some.more c.in-Bucket.is
    c.in-Some.ensures.some c.args.passed.now c.merge_buckets.new.passed
    c.in_ok-merge_buckets-in-Bucket.ensures.ok

pub buckets-merged : goal.merged::merge_results-returns-in_ok-merge_buckets-in-Bucket-clause-merged
buckets-merged t c =
    λ nay. bucket-merged c.args.left c.args.right c.in-Bucket.held c.in-Some.more c.in-Bucket.is
    c.in-Some.ensures.some c.in_ok-merge_buckets-in-Bucket.field-0
    (c.in_ok-merge_buckets-in-Bucket.ensures.merged nay)
