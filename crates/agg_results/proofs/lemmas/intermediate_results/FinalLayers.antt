-- The final result of an aggregation, by what it asks and by those of the aggregations below it.
use Rattle.std.proofs.Common.{◌≡◌, ℕ, [], ◌∷◌, None, Some, map, refl, sym, ap, ◌∙◌}
use Rattle.agg_values.specs.Names.{Named, value_of}
use Rattle.agg_request_tree.specs.Request.{Request, agg_of, below_of}
use Rattle.agg_request_tree.specs.Source.{Sources}
use Rattle.agg_request_tree.specs.declared.aggregation.Aggregation.{Aggregation}
use Rattle.agg_request_tree.specs.declared.aggregation.Aggregation.TheFolds.{fold_out-Aggregation}
use Rattle.agg_request_tree.specs.declared.aggregation.AggregationVariants.{AggregationVariants}
use Rattle.agg_request_tree.specs.declared.aggregation.AggregationVariants.TheVariants as asks
use Rattle.agg_request_tree.specs.declared.aggregation.CompositeAggregation.{CompositeAggregation}
use Rattle.agg_request_tree.specs.declared.aggregation.filter.FilterAggregation.{FilterAggregation}
use Rattle.agg_results.specs.intermediate_results.Final.{Finish, final_bucket, final_by}
use Rattle.agg_results.specs.intermediate_results.Final.{final_by_name, final_nothing, final_page}
use Rattle.agg_results.specs.intermediate_results.Final.{final_result, final_step, finish_all}
use Rattle.agg_results.specs.intermediate_results.Final.{lowest_of}
use Rattle.agg_results.specs.intermediate_results.Intermediate.{Entries, Held, Parts, below_entry}
use Rattle.agg_results.specs.intermediate_results.Intermediate.{composite, counts_of, filter}
use Rattle.agg_results.specs.intermediate_results.Intermediate.{parts_of, target_size_of}
use Rattle.agg_results.specs.intermediate_results.Shown.{last_tuple, shown_bucket, shown_filter}
use Rattle.agg_results.specs.intermediate_results.Shown.{shown_page}
use Rattle.agg_results.specs.declared.intermediate_results as declared
use declared.composite.IntermediateCompositeBucketResult.{IntermediateCompositeBucketResult}
use declared.results.IntermediateAggregationResult.{IntermediateAggregationResult}
use declared.results.IntermediateAggregationResult.TheVariants.{Bucket}
use declared.results.IntermediateAggregationResults.{IntermediateAggregationResults}
use declared.results.IntermediateBucketResult.{IntermediateBucketResult}
use declared.results.IntermediateBucketResult.TheVariants as buckets
use Rattle.agg_results.proofs.lemmas.intermediate_results.ResultParts.{parts-composite}
use Rattle.agg_results.proofs.lemmas.intermediate_results.ResultParts.{parts-filter}
use Rattle.agg_results.proofs.lemmas.intermediate_results.ShownPages.{shown_entry}

-- what the aggregations of a request make of what is held under their names
abbrev pub finishes_of : {B : Type 0} → Request B → Named Finish
finishes_of below = map (λ a. (a.0, final_result a.1)) below

-- they make the final result of each name
pub finish-named : {B : Type 0} (below : Request B) (held : Held)
    → finish_all (finishes_of below) held ≡ final_by_name below held
finish-named [] held = refl
finish-named (a ∷ below) held =
    ap (λ rest. (a.0, final_result a.1 (value_of a.0 held)) ∷ rest) (finish-named below held)

module _ {B : Type 0} (a : Aggregation B) (asked : AggregationVariants B)
    (is : agg_of a ≡ asked) where
  -- where nothing is held
  pub final-nothing : final_result a None ≡ final_nothing asked (finishes_of (below_of a))
  final-nothing =
      ap (λ (finish : Finish). finish None) (fold_out-Aggregation B Finish final_step a)
      ∙ ap (λ asks. final_nothing asks (finishes_of (below_of a))) is

  -- where a result of these parts is held
  pub final-some : (r : IntermediateAggregationResult) (parts : Parts) → parts_of r ≡ parts
      → final_result a (Some r) ≡ final_by asked (finishes_of (below_of a)) parts
  final-some r parts same =
      ap (λ (finish : Finish). finish (Some r)) (fold_out-Aggregation B Finish final_step a)
      ∙ (λ i. final_by (is i) (finishes_of (below_of a)) (same i))

-- ---- entries

entries-named : {B : Type 0} (sources : Sources) (below : Request B) (es : Entries)
    → map (final_bucket sources (finishes_of below)) es ≡ map (shown_entry sources below) es
entries-named sources below [] = refl
entries-named sources below (e ∷ es) =
    λ i. shown_bucket sources (e.0, e.1.doc_count) (finish-named below (below_entry e.1) i)
    ∷ entries-named sources below es i

-- the page of a composite, with the final results below its entries
pub page-named : {B : Type 0} (sources : Sources) (below : Request B)
    (held : IntermediateCompositeBucketResult)
    → final_page sources (finishes_of below) held
    ≡ shown_page sources (map (shown_entry sources below) (lowest_of held))
    (last_tuple (target_size_of held) (counts_of (lowest_of held)))
page-named sources below held =
    ap (λ entries. shown_page sources entries
    (last_tuple (target_size_of held) (counts_of (lowest_of held))))
    (entries-named sources below (lowest_of held))

-- ---- what is shown

module _ {B : Type 0} (a : Aggregation B) where
  -- a filter that isn't held has the final results of nothing
  pub nothing-filter : (f : FilterAggregation B) (none : Held) → agg_of a ≡ asks.Filter f
      → none ≡ [] → shown_filter 0 (final_by_name (below_of a) none) ≡ final_result a None
  nothing-filter f none is empty =
      ap (λ whole. shown_filter 0 (final_by_name (below_of a) whole)) empty
      ∙ ap (shown_filter 0) (sym (finish-named (below_of a) []))
      ∙ sym (final-nothing a (asks.Filter f) is)

  -- a filter that is held has those of what is held below it
  pub held-filter : (f : FilterAggregation B) (b : IntermediateBucketResult) (count : ℕ)
      (r : IntermediateAggregationResults) → agg_of a ≡ asks.Filter f → b ≡ buckets.Filter count r
      → shown_filter count (final_by_name (below_of a) r.results) ≡ final_result a (Some (Bucket b))
  held-filter f b count r is same =
      ap (shown_filter count) (sym (finish-named (below_of a) r.results))
      ∙ sym (final-some a (asks.Filter f) is (Bucket b) (filter count r.results)
      (parts-filter b count r same))

  -- a composite that is held has the page of its lowest entries
  pub held-composite : (c : CompositeAggregation) (b : IntermediateBucketResult)
      (held : IntermediateCompositeBucketResult) (sources : Sources) → agg_of a ≡ asks.Composite c
      → b ≡ buckets.Composite held → sources ≡ c.sources
      → shown_page sources (map (shown_entry sources (below_of a)) (lowest_of held))
      (last_tuple (target_size_of held) (counts_of (lowest_of held)))
      ≡ final_result a (Some (Bucket b))
  held-composite c b held sources is same own =
      sym (page-named sources (below_of a) held)
      ∙ ap (λ s. final_page s (finishes_of (below_of a)) held) own
      ∙ sym (final-some a (asks.Composite c) is (Bucket b) (composite held)
      (parts-composite b held same))
