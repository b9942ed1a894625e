-- What merging makes of results that have buckets, from what it makes of their parts.
use Rattle.std.proofs.Common.{◌≡◌, ℕ, ◌+◌, ◌≤◌, ◌^◌, ◌⊎◌, inr, Bool, true, false, refl, sym}
use Rattle.std.proofs.Common.{◌∙◌, subst}
use Rattle.agg_results.specs.metric_results.Merges.{Merges}
use Rattle.agg_results.specs.declared.metric_results.metric.IntermediateMetricResult as metrics
use metrics.{IntermediateMetricResult}
use Rattle.agg_results.proofs.lemmas.metric_results.Outcomes.{merges-as, merges-both}
use Rattle.agg_results.specs.intermediate_results.Intermediate.{BucketLayer, Parts, composite}
use Rattle.agg_results.specs.intermediate_results.Intermediate.{metric, parts_of, parts_of_bucket}
use Rattle.agg_results.specs.intermediate_results.Intermediate.{parts_of_layer}
use Rattle.agg_results.specs.intermediate_results.Intermediate as held
use Rattle.agg_results.specs.intermediate_results.Merging.{AreMerged, CompositesMerged, CountsPass}
use Rattle.agg_results.specs.intermediate_results.Merging.{IsMerged, JoinNames, MergedTo}
use Rattle.agg_results.specs.intermediate_results.Merging.{PartsDiffer, PartsMerged, PartsPass}
use Rattle.agg_results.specs.intermediate_results.Merging.{ShapesDiffer, SomeOfBoth}
use Rattle.agg_results.specs.declared.intermediate_results as intermediate
use intermediate.results.IntermediateAggregationResult.{IntermediateAggregationResult}
use intermediate.results.IntermediateAggregationResult as declared
use declared.TheVariants.{Bucket, Metric}
use declared.TheOpen as opened
use declared.TheViews.{Filter, out-IntermediateBucketResult}
use intermediate.results.IntermediateAggregationResults.{IntermediateAggregationResults}
use intermediate.results.IntermediateBucketResult.{IntermediateBucketResult}
use intermediate.results.IntermediateBucketResult.TheVariants as buckets
use intermediate.composite.IntermediateCompositeBucketResult as c
use c.{IntermediateCompositeBucketResult}
use Rattle.agg_results.proofs.lemmas.intermediate_results.Depths.{differ-from_parts}
use Rattle.agg_results.proofs.lemmas.intermediate_results.Depths.{merged-from_parts}
use Rattle.agg_results.proofs.lemmas.intermediate_results.Depths.{merges-from_parts}
use Rattle.agg_results.proofs.lemmas.intermediate_results.ResultParts.{parts-composite}
use Rattle.agg_results.proofs.lemmas.intermediate_results.ResultParts.{parts-filter}

abbrev pub PartsMerge : Bool → Bool → Parts → Parts → Type 0
PartsMerge was now p q =
    Merges was now (PartsDiffer (SomeOfBoth ShapesDiffer) p q)
    (PartsPass (SomeOfBoth CountsPass) p q)

abbrev pub PartsDone : Parts → Parts → Parts → Type 0
PartsDone p q w = (depth : ℕ) → PartsMerged (JoinNames (MergedTo depth)) p q w

module _ (b d : IntermediateBucketResult) where
  parts-as : (was now : Bool) (p q : Parts) → parts_of_bucket b ≡ p → parts_of_bucket d ≡ q
      → PartsMerge was now p q → PartsMerge was now (parts_of_bucket b) (parts_of_bucket d)
  parts-as was now p q is other h =
      subst (λ x. PartsMerge was now x (parts_of_bucket d)) (sym is)
      (subst (λ y. PartsMerge was now p y) (sym other) h)

  done-as : (p q w v : Parts) → parts_of_bucket b ≡ p → parts_of_bucket d ≡ q → w ≡ v
      → PartsDone p q v → PartsDone (parts_of_bucket b) (parts_of_bucket d) w
  done-as p q w v is other last h =
      subst (λ x. PartsDone x (parts_of_bucket d) w) (sym is)
      (subst (λ y. PartsDone p y w) (sym other) (subst (PartsDone p q) (sym last) h))

  module _ (m n : ℕ) (s t : IntermediateAggregationResults) (is : b ≡ Filter m s)
      (other : d ≡ Filter n t) (was mid now : Bool) (add : Merges was mid ⊥ (2 ^ 64 ≤ m + n))
      (below : Merges mid now (SomeOfBoth ShapesDiffer s.results t.results)
      (SomeOfBoth CountsPass s.results t.results)) where
    pub filters-merge : PartsMerge was now (parts_of_bucket b) (parts_of_bucket d)
    filters-merge =
        parts-as was now (held.filter m s.results) (held.filter n t.results)
        (parts-filter b m s is) (parts-filter d n t other)
        (merges-as was now (⊥ ⊎ SomeOfBoth ShapesDiffer s.results t.results)
        (SomeOfBoth ShapesDiffer s.results t.results)
        ((2 ^ 64 ≤ m + n) ⊎ SomeOfBoth CountsPass s.results t.results)
        ((2 ^ 64 ≤ m + n) ⊎ SomeOfBoth CountsPass s.results t.results)
        (λ h. inr h) (λ h. h) (λ h. h)
        (merges-both was mid now ⊥ (SomeOfBoth ShapesDiffer s.results t.results)
        (2 ^ 64 ≤ m + n) (SomeOfBoth CountsPass s.results t.results) add below))

    pub filters-done : (count : ℕ) (v : IntermediateAggregationResults)
        → (mid ≡ false → count ≡ m + n)
        → (now ≡ false → AreMerged s.results t.results v.results) → now ≡ false
        → PartsDone (parts_of_bucket b) (parts_of_bucket d) (parts_of_bucket (Filter count v))
    filters-done count v sum merged nay =
        done-as (held.filter m s.results) (held.filter n t.results)
        (parts_of_bucket (Filter count v)) (held.filter count v.results) (parts-filter b m s is)
        (parts-filter d n t other) (parts-filter (Filter count v) count v refl)
        (λ depth. (sum (early mid refl), merged nay depth))
      where
        early : (x : Bool) → mid ≡ x → mid ≡ false
        early true raised = let h : true ≡ false = sym (below.kept raised) ∙ nay in cc
        early false is_false = is_false

  module _ (c e : IntermediateCompositeBucketResult) (is : b ≡ buckets.Composite c)
      (other : d ≡ buckets.Composite e) where
    pub composite-parts : (was now : Bool) → PartsMerge was now (composite c) (composite e)
        → PartsMerge was now (parts_of_bucket b) (parts_of_bucket d)
    composite-parts was now h =
        parts-as was now (composite c) (composite e) (parts-composite b c is)
        (parts-composite d e other) h

    pub composite-done : (v : IntermediateCompositeBucketResult)
        → ((depth : ℕ) → CompositesMerged (JoinNames (MergedTo depth)) c e v)
        → PartsDone (parts_of_bucket b) (parts_of_bucket d)
        (parts_of_bucket (buckets.Composite v))
    composite-done v h =
        done-as (composite c) (composite e) (parts_of_bucket (buckets.Composite v)) (composite v)
        (parts-composite b c is) (parts-composite d e other)
        (parts-composite (buckets.Composite v) v refl) h

-- ---- results of any kind

module _ (r o : IntermediateAggregationResult) (b d : IntermediateBucketResult)
    (is : r ≡ Bucket b) (other : o ≡ Bucket d) where
  pub bucket-merges : (was now : Bool)
      → PartsMerge was now (parts_of_bucket b) (parts_of_bucket d)
      → Merges was now (ShapesDiffer r o) (CountsPass r o)
  bucket-merges was now h =
      merges-from_parts r o was now
      (subst (λ x. PartsMerge was now (parts_of x) (parts_of o)) (sym is)
      (subst (λ y. PartsMerge was now (parts_of_bucket b) (parts_of y)) (sym other) h))

  pub bucket-merged : (v : IntermediateBucketResult)
      → PartsDone (parts_of_bucket b) (parts_of_bucket d) (parts_of_bucket v)
      → IsMerged r o (Bucket v)
  bucket-merged v h =
      merged-from_parts r o (Bucket v)
      (subst (λ x. PartsDone (parts_of x) (parts_of o) (parts_of_bucket v)) (sym is)
      (subst (λ y. PartsDone (parts_of_bucket b) (parts_of y) (parts_of_bucket v)) (sym other) h))

  pub bucket-differ : PartsDiffer (SomeOfBoth ShapesDiffer) (parts_of_bucket b) (parts_of_bucket d)
      → ShapesDiffer r o
  bucket-differ h =
      differ-from_parts r o
      (subst (λ x. PartsDiffer (SomeOfBoth ShapesDiffer) (parts_of x) (parts_of o)) (sym is)
      (subst (λ y. PartsDiffer (SomeOfBoth ShapesDiffer) (parts_of_bucket b) (parts_of y))
      (sym other) h))

layer-metric : (m : IntermediateMetricResult) (x : BucketLayer)
    → PartsDiffer (SomeOfBoth ShapesDiffer) (metric m) (parts_of_layer x)
    × PartsDiffer (SomeOfBoth ShapesDiffer) (parts_of_layer x) (metric m)
layer-metric m (opened.Filter count below) = (tt, tt)
layer-metric m (opened.Composite c) = (tt, tt)

-- a metric and a result that has buckets differ
pub metric-bucket : (r o : IntermediateAggregationResult) (m : IntermediateMetricResult)
    (b : IntermediateBucketResult) → r ≡ Metric m → o ≡ Bucket b → ShapesDiffer r o
metric-bucket r o m b is other =
    differ-from_parts r o
    (subst (λ x. PartsDiffer (SomeOfBoth ShapesDiffer) (parts_of x) (parts_of o)) (sym is)
    (subst (λ y. PartsDiffer (SomeOfBoth ShapesDiffer) (metric m) (parts_of y)) (sym other)
    (layer-metric m (out-IntermediateBucketResult b)).0))

pub bucket-metric : (r o : IntermediateAggregationResult) (b : IntermediateBucketResult)
    (m : IntermediateMetricResult) → r ≡ Bucket b → o ≡ Metric m → ShapesDiffer r o
bucket-metric r o b m is other =
    differ-from_parts r o
    (subst (λ x. PartsDiffer (SomeOfBoth ShapesDiffer) (parts_of x) (parts_of o)) (sym is)
    (subst (λ y. PartsDiffer (SomeOfBoth ShapesDiffer) (parts_of_bucket b) (parts_of y)) (sym other)
    (layer-metric m (out-IntermediateBucketResult b)).1))
