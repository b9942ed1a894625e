-- The page of a composite that has nothing below it.
use Rattle.std.proofs.Common.{◌≡◌, ℕ, zero, suc, List, [], ◌∷◌, Some, get_or, map, take}
use Rattle.std.proofs.Common.{inl, refl, sym, ap, ◌∙◌, subst}
use Rattle.std.specs.List.{All, Contains}
use Rattle.std.proofs.lemmas.Cmp.{nat_list_cmp_total}
use Rattle.std.proofs.lemmas.List.Elements.{All-from_recursion, All-map, All-nil}
use Rattle.std.proofs.lemmas.Map.Lookups.{exact_bytes}
use Rattle.agg_values.specs.Names.{Named, put, value_of}
use Rattle.agg_values.specs.Tuple.{KeyTuple}
use Rattle.agg_values.specs.declared.after_key.AfterKey.{AfterKey}
use Rattle.agg_values.proofs.NameValues.{value-put}
use Rattle.agg_segment.specs.storage.Document.{Fields}
use Rattle.agg_segment.specs.Query.{matches}
use Rattle.agg_segment.specs.Segment.{Stored, documents_at}
use Rattle.agg_segment.specs.declared.query.QueryTree.{QueryTree}
use Rattle.agg_request_tree.specs.Groups.{Group}
use Rattle.agg_request_tree.specs.Occurrences.{bound_of}
use Rattle.agg_request_tree.specs.Page.{Entry, count_in, documents_with, entry_of}
use Rattle.agg_request_tree.specs.Request.{below_of}
use Rattle.agg_request_tree.specs.Source.{Sources, rules_of}
use Rattle.agg_request_tree.specs.declared.aggregation.Aggregation.{Aggregation}
use Rattle.agg_request_tree.specs.declared.aggregation.AggregationVariants.{AggregationVariants}
use Rattle.agg_request_tree.specs.declared.aggregation.AggregationVariants.TheVariants as asks
use Rattle.agg_request_tree.specs.declared.aggregation.CompositeAggregation.{CompositeAggregation}
use Rattle.agg_request_tree.proofs.Lists.{All-from_map, Contains-here}
use Rattle.agg_request_tree.proofs.PageFromGroups.{IsPage-from_groups}
use Rattle.agg_composite.specs.accessor.Encoding.{EncodedTuple}
use Rattle.agg_composite.specs.declared.accessor.request_data.CompositeAggReqData.{
  CompositeAggReqData,
}
use Rattle.agg_composite.specs.buckets.Page.{Page}
use Rattle.agg_composite.specs.Listing.{IsLowest}
use Rattle.agg_composite.specs.PageEntries.{entry_group, page_entries}
use Rattle.agg_composite.specs.declared.page_entry.PageEntry.{PageEntry}
use Rattle.agg_results.specs.intermediate_results.Intermediate.{Held as Results, as_composite}
use Rattle.agg_results.specs.intermediate_results.Intermediate.{composite_of, parts_of}
use Rattle.agg_results.specs.declared.intermediate_results as intermediate
use intermediate.composite.IntermediateCompositeBucketResult.{IntermediateCompositeBucketResult}
use intermediate.results.IntermediateBucketResult.TheVariants as buckets
use Rattle.agg_results.proofs.lemmas.intermediate_results.ResultParts.{parts-composite}
use Rattle.agg_results.specs.StandsFor.{CompositeStands, EntryStands, GroupsStandFor, NamesStand}
use Rattle.agg_results.specs.StandsFor.{PartsStand, StandsFor, StandsTo}
use Rattle.agg_results.proofs.Parts.{length-with, part-itself}
use Rattle.agg_results.proofs.StandingComposites.{stands-made}
use Rattle.agg_results.proofs.StandingGroups.{stands-lowest}
use Rattle.agg_engine_tree.specs.tree_results.Entries.{IsAscending}
use Rattle.agg_engine_tree.specs.tree_results.Leaves.{IsLeafOf, leaf_entry}
use Rattle.agg_engine_tree.proofs.lemmas.tree_results.HeldLeaves.{counts-leaves}

module _ (segment : Stored) (after : Named AfterKey) (req : CompositeAggReqData) (docs : List ℕ)
    (entries : Page EncodedTuple) (lowest : IsLowest segment after req docs entries) where
  abbrev sources : Sources
  sources = req.req.now.sources

  abbrev bound : KeyTuple
  bound = bound_of sources after

  abbrev documents : List Fields
  documents = documents_at segment docs

  abbrev page : List PageEntry
  page = page_entries req entries

  -- ---- the entries

  -- entries that are the lowest groups stand for their documents
  groups-lowest : GroupsStandFor sources req.size bound documents (map entry_group page)
  groups-lowest =
      subst (GroupsStandFor sources req.size bound documents) (sym lowest.lowest)
      (stands-lowest sources req.size bound documents lowest.groups lowest.are)

  -- the lowest groups ascend
  pub lowest-ascend : IsAscending sources page
  lowest-ascend = groups-lowest.ascending

  -- the counts of the lowest groups are exact
  counted-lowest : All (λ entry. entry.doc_count ≡ count_in sources documents entry.key) page
  counted-lowest =
      let are = IsPage-from_groups sources documents req.size bound lowest.groups lowest.are in
      let counted = All-from_map (λ (e : Entry). e.count ≡ count_in sources documents e.tuple)
      (entry_of sources documents) (take req.size lowest.groups) are.counted in
      All-from_map (λ (g : Group). g.1 ≡ count_in sources documents g.0) entry_group page
      (subst (All (λ (g : Group). g.1 ≡ count_in sources documents g.0)) (sym lowest.lowest)
      counted)

  -- ---- the composite

  -- its data as an aggregation
  abbrev own : CompositeAggregation
  own = record { sources = sources; size = req.size; after = after }

  abbrev made : IntermediateCompositeBucketResult
  made = composite_of (rules_of sources) req.size (map leaf_entry page)

  -- held with nothing below them, the entries stand for the documents where nothing does for any
  composite-leaf : (Below : List Fields → Results → Type 0) → ((ds : List Fields) → Below ds [])
      → CompositeStands Below own documents made
  composite-leaf Below none =
      stands-made Below own documents (rules_of sources) req.size (map leaf_entry page)
      (inl (refl, refl))
      (subst (GroupsStandFor sources req.size bound documents) (sym (counts-leaves page))
      groups-lowest)
      (All-map (EntryStands Below sources documents) leaf_entry page (λ k d within.
      let key = (get_or page k d).key in
      let with_key = documents_with sources documents key in (
        with_key,
        part-itself with_key,
        length-with sources documents key ∙ sym (counted-lowest k d within),
        none with_key,
      )))

  module _ (a : Aggregation QueryTree) (asked : CompositeAggregation)
      (leaf : IsLeafOf req after a asked) where
    is_own : own ≡ asked
    is_own = λ i. record { sources = leaf.sources i; size = leaf.size i; after = leaf.start i }

    -- no results stand for any documents, as nothing is asked below it
    none-below : (depth : ℕ) (ds : List Fields)
        → NamesStand matches (StandsTo matches depth) (below_of a) ds []
    none-below depth ds =
        subst (λ request. NamesStand matches (StandsTo matches depth) request ds [])
        (sym leaf.below) (record {
          each = All-nil (λ (b : List ℕ × Aggregation QueryTree).
              StandsTo matches depth b.1 ds (value_of b.0 []));
          known = All-nil (Contains []);
        })

    -- its result stands for the documents at every depth
    leaf-stands : (depth : ℕ) → StandsTo matches depth a documents (Some (as_composite made))
    leaf-stands zero = tt
    leaf-stands (suc depth) =
        subst (λ (v : AggregationVariants QueryTree).
        PartsStand matches (NamesStand matches (StandsTo matches depth)) v (below_of a) documents
        (parts_of (as_composite made))) (sym (leaf.agg ∙ ap asks.Composite (sym is_own)))
        (subst (PartsStand matches (NamesStand matches (StandsTo matches depth))
        (asks.Composite own) (below_of a) documents)
        (sym (parts-composite (buckets.Composite made) made refl))
        (composite-leaf (NamesStand matches (StandsTo matches depth) (below_of a))
        (none-below depth)))

    -- alone under its name, the result of a leaf is that of its request
    pub alone-stands : (results : Results) → results ≡ put req.name (as_composite made) []
        → StandsFor matches ((req.name, a) ∷ []) documents results
    alone-stands results is =
        subst (StandsFor matches ((req.name, a) ∷ []) documents) (sym is) (λ depth. record {
          each = All-from_recursion (λ b. StandsTo matches depth b.1 documents
              (value_of b.0 (put req.name (as_composite made) []))) ((req.name, a) ∷ []) (
                subst (StandsTo matches depth a documents)
                    (sym (value-put nat_list_cmp_total exact_bytes [] req.name
                    (as_composite made))) (leaf-stands depth),
                tt,
              );
          known = All-from_recursion (Contains (req.name ∷ [])) (req.name ∷ [])
              (Contains-here req.name [], tt);
        })
