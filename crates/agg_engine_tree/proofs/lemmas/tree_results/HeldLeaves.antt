-- The entries of a page, held one after another with nothing below them.
use Rattle.std.proofs.Common.{◌≡◌, ℕ, List, [], ◌∷◌, ◌++◌, Less, map, refl, sym, ap, ◌∙◌}
use Rattle.std.specs.List.{All}
use Rattle.std.specs.Map.{keys_of}
use Rattle.std.proofs.lemmas.List.{map-append}
use Rattle.agg_values.specs.KeyOrder.{tuple_order}
use Rattle.agg_request_tree.specs.Source.{Sources, rules_of}
use Rattle.agg_composite.specs.PageEntries.{entry_group}
use Rattle.agg_composite.specs.declared.page_entry.PageEntry.{PageEntry}
use Rattle.agg_results.specs.intermediate_results.Intermediate.{composite_of, counts_of, entries_of}
use Rattle.agg_results.specs.intermediate_results.Intermediate.{orders_of, target_size_of}
use Rattle.agg_results.specs.declared.intermediate_results as declared
use declared.composite.IntermediateCompositeBucketResult.{IntermediateCompositeBucketResult}
use declared.entry.IntermediateTermBucketEntry.{IntermediateTermBucketEntry}
use declared.results.IntermediateAggregationResults.{IntermediateAggregationResults}
use Rattle.agg_engine_tree.specs.tree_results.Entries.{IsAscending}
use Rattle.agg_engine_tree.specs.tree_results.Leaves.{leaf_entry}
use Rattle.agg_engine_tree.proofs.lemmas.tree_results.HeldEntries.{HasParts, next-above, parts-made}

-- they count the groups of the page
pub counts-leaves : (page : List PageEntry)
    → counts_of (map leaf_entry page) ≡ map entry_group page
counts-leaves [] = refl
counts-leaves (p ∷ page) = λ i. (p.key, p.doc_count) ∷ counts-leaves page i

keys-leaves : (page : List PageEntry)
    → keys_of (map leaf_entry page) ≡ keys_of (map entry_group page)
keys-leaves [] = refl
keys-leaves (p ∷ page) = λ i. p.key ∷ keys-leaves page i

module _ (sources : Sources) (size : ℕ) (page : List PageEntry)
    (c : IntermediateCompositeBucketResult)
    (is : c ≡ composite_of (rules_of sources) size (map leaf_entry page)) where
  has : HasParts c (rules_of sources) size (map leaf_entry page)
  has = parts-made c (rules_of sources) size (map leaf_entry page) is

  -- the next entry of an ascending page is above those that are held
  pub leaves-below : (whole : List PageEntry) (entry : PageEntry) (rest : List PageEntry)
      → whole ≡ page ++ entry ∷ rest → IsAscending sources whole
      → All (λ k. tuple_order (orders_of c) k entry.key ≡ Less) (keys_of (entries_of c))
  leaves-below whole entry rest split up =
      next-above sources size page (map leaf_entry page) c has (keys-leaves page) whole entry rest
      split up

  -- with the next entry the result holds one more
  pub leaves-more : (entry : PageEntry) (below : IntermediateAggregationResults)
      (d : IntermediateCompositeBucketResult) → below.results ≡ []
      → (let held : IntermediateTermBucketEntry = record {
        doc_count = entry.doc_count;
        sub_aggregation = below;
      } in d ≡ composite_of (orders_of c) (target_size_of c)
      (entries_of c ++ (entry.key, held) ∷ []))
      → d ≡ composite_of (rules_of sources) size (map leaf_entry (page ++ entry ∷ []))
  leaves-more entry below d none d_is =
      let with_none : (r : IntermediateAggregationResults) → IntermediateTermBucketEntry =
      λ r. record { doc_count = entry.doc_count; sub_aggregation = r } in
      d_is
      ∙ (λ i. composite_of (has.orders_are i) (has.size_is i)
      (has.entries_are i ++ (entry.key, with_none (record { results = none i })) ∷ []))
      ∙ ap (composite_of (rules_of sources) size) (sym (map-append leaf_entry page (entry ∷ [])))
