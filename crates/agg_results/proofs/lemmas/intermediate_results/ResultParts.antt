-- The parts of results, by the variants that they are.
use Rattle.std.proofs.Common.{◌≡◌, ℕ, sym, ap, ◌∙◌}
use Rattle.agg_results.specs.intermediate_results.Intermediate.{composite, filter}
use Rattle.agg_results.specs.intermediate_results.Intermediate.{parts_of_bucket, parts_of_layer}
use Rattle.agg_results.specs.declared.intermediate_results as intermediate
use intermediate.results.IntermediateAggregationResult as declared
use declared.TheOpen as opened
use declared.TheViews.{out-roll-IntermediateBucketResult}
use intermediate.results.IntermediateAggregationResults.{IntermediateAggregationResults}
use intermediate.results.IntermediateBucketResult.{IntermediateBucketResult}
use intermediate.results.IntermediateBucketResult.TheVariants as buckets
use intermediate.composite.IntermediateCompositeBucketResult.{IntermediateCompositeBucketResult}

-- the parts of a filter's result
pub parts-filter : (b : IntermediateBucketResult) (count : ℕ) (r : IntermediateAggregationResults)
    → b ≡ buckets.Filter count r → parts_of_bucket b ≡ filter count r.results
parts-filter b count r is =
    ap parts_of_bucket (is ∙ sym (buckets.rolls-Filter count r))
    ∙ ap parts_of_layer (out-roll-IntermediateBucketResult (opened.Filter count r))

-- the parts of a composite's result
pub parts-composite : (b : IntermediateBucketResult) (c : IntermediateCompositeBucketResult)
    → b ≡ buckets.Composite c → parts_of_bucket b ≡ composite c
parts-composite b c is =
    ap parts_of_bucket (is ∙ sym (buckets.rolls-Composite c))
    ∙ ap parts_of_layer (out-roll-IntermediateBucketResult (opened.Composite c))
