-- The result of a composite's node.
use Rattle.std.proofs.Common.{◌≡◌, ℕ, zero, suc, List, [], ◌∷◌, Option, Some}
use Rattle.std.proofs.Common.{get_or, map, inl, refl, sym, ap, ◌∙◌, subst}
use Rattle.std.specs.Prelude.{slice_get}
use Rattle.std.specs.List.{All, AllByRecursion, AllZip}
use Rattle.std.proofs.lemmas.List.Elements.{All-from_recursion, recursion_from_All}
use Rattle.std.proofs.lemmas.Option.{same_Some}
use Rattle.agg_segment.specs.storage.Document.{Fields}
use Rattle.agg_segment.specs.Query.{matches}
use Rattle.agg_segment.specs.Segment.{documents_at}
use Rattle.agg_segment.specs.declared.query.QueryTree.{QueryTree}
use Rattle.agg_request_tree.specs.Occurrences.{bound_of}
use Rattle.agg_request_tree.specs.Page.{count_in, documents_with}
use Rattle.agg_request_tree.specs.Request.{below_of}
use Rattle.agg_request_tree.specs.Source.{Sources, rules_of}
use Rattle.agg_request_tree.specs.declared.aggregation.Aggregation.{Aggregation}
use Rattle.agg_request_tree.specs.declared.aggregation.AggregationVariants.{AggregationVariants}
use Rattle.agg_request_tree.specs.declared.aggregation.AggregationVariants.TheVariants as asks
use Rattle.agg_composite.specs.declared.accessor.request_data.CompositeAggReqData.{
  CompositeAggReqData,
}
use Rattle.agg_composite.specs.Composite.{Composite}
use Rattle.agg_composite.specs.PageEntries.{entry_group}
use Rattle.agg_composite.specs.declared.page_entry.PageEntry.{PageEntry}
use Rattle.agg_results.specs.intermediate_results.Intermediate.{Entries, Held as Results}
use Rattle.agg_results.specs.intermediate_results.Intermediate.{TupleEntry, as_composite}
use Rattle.agg_results.specs.intermediate_results.Intermediate.{below_entry, composite_of}
use Rattle.agg_results.specs.intermediate_results.Intermediate.{counts_of, parts_of}
use Rattle.agg_results.specs.declared.intermediate_results as intermediate
use intermediate.composite.IntermediateCompositeBucketResult.{IntermediateCompositeBucketResult}
use intermediate.results.IntermediateBucketResult.TheVariants as buckets
use Rattle.agg_results.proofs.lemmas.intermediate_results.ResultParts.{parts-composite}
use Rattle.agg_results.specs.StandsFor.{CompositeStands, EntryStands, GroupsStandFor, NamesStand}
use Rattle.agg_results.specs.StandsFor.{PartsStand, StandsTo}
use Rattle.agg_results.proofs.Parts.{length-with, part-itself}
use Rattle.agg_results.proofs.StandingComposites.{stands-made}
use Rattle.agg_engine_tree.specs.segment_context.Context.{IsPlanOf, Meaning}
use Rattle.agg_engine_tree.specs.segment_context.Plan.{Plan}
use Rattle.agg_engine_tree.specs.declared.segment_context.context.PerRequestAggSegCtx.{
  PerRequestAggSegCtx,
}
use Rattle.agg_engine_tree.specs.collector_tree.Caches.{Cache, waiting_in}
use Rattle.agg_engine_tree.specs.collector_tree.Tree.{Held, IsHandedTo, IsOf}
use Rattle.agg_engine_tree.specs.tree_results.Entries.{IsEntryOf}
use Rattle.agg_engine_tree.specs.tree_results.Pages.{IsPageUnder}
use Rattle.agg_engine_tree.specs.tree_results.Results.{GroupStands, IsTrail, docs_taken}
use Rattle.agg_engine_tree.proofs.lemmas.tree_results.BelowNodes.{below-stands}
use Rattle.agg_engine_tree.proofs.lemmas.tree_results.NamedNodes.{composite-node}

counts-entries : (ctx : PerRequestAggSegCtx) (h : Held) (page : List PageEntry) (es : Entries)
    → AllZip (IsEntryOf ctx h) page es → counts_of es ≡ map entry_group page
counts-entries ctx h [] [] are = refl
counts-entries ctx h [] (e ∷ es) are = absurd are
counts-entries ctx h (p ∷ page) [] are = absurd are
counts-entries ctx h (p ∷ page) (e ∷ es) are =
    λ i. (are.0.key i, are.0.count i) ∷ counts-entries ctx h page es are.1 i

-- ---- the entries of a page

module _ (Below : List Fields → Results → Type 0) (ctx : PerRequestAggSegCtx) (h : Held)
    (sources : Sources) (documents : List Fields) where
  -- an entry's count is that of its tuple, and what is below it stands for the tuple's documents
  pub record IsRight (p : PageEntry) : Type 0 where
    pub counted : p.doc_count ≡ count_in sources documents p.key
    pub stands : (held : Results) → GroupStands ctx h (Some p.bucket_id) held
        → Below (documents_with sources documents p.key) held

  entry-stands : (p : PageEntry) (e : TupleEntry) → IsEntryOf ctx h p e → IsRight p
      → EntryStands Below sources documents e
  entry-stands p e is right =
      let docs = documents_with sources documents e.0 in (
        docs,
        part-itself docs,
        length-with sources documents e.0
            ∙ ap (count_in sources documents) is.key ∙ sym right.counted ∙ sym is.count,
        subst (λ key. Below (documents_with sources documents key) (below_entry e.1)) (sym is.key)
            (right.stands (below_entry e.1) is.stands),
      )

  entries-stand : (page : List PageEntry) (es : Entries) → AllZip (IsEntryOf ctx h) page es
      → AllByRecursion IsRight page → AllByRecursion (EntryStands Below sources documents) es
  entries-stand [] [] are right = tt
  entries-stand [] (e ∷ es) are right = absurd are
  entries-stand (p ∷ page) [] are right = absurd are
  entries-stand (p ∷ page) (e ∷ es) are right =
      (entry-stands p e are.0 right.0, entries-stand page es are.1 right.1)

-- ---- the node

module _ (ctx : PerRequestAggSegCtx) (index : ℕ) (collector : Composite Cache) (h : Held)
    (handed : IsHandedTo collector.hands_on h) (parent : Option ℕ) (req : CompositeAggReqData)
    (found : slice_get ctx.composite_req_data index ≡ Some req) (page : List PageEntry)
    (none : (id : ℕ) → waiting_in collector.cache.0 id ≡ []) where
  module _ (told : IsPageUnder collector req parent page) (es : Entries)
      (are : AllZip (IsEntryOf ctx h) page es) (c : IntermediateCompositeBucketResult)
      (is : c ≡ composite_of (rules_of req.req.now.sources) req.size es) where
    -- its result stands for the documents that the composite took
    pub composite-stands : (meaning : Meaning) (taken : List (ℕ × ℕ))
        → IsTrail meaning ctx (Held.composite index collector h) parent taken
        → (name : List ℕ) (a : Aggregation QueryTree) (plan : Plan)
        → IsPlanOf meaning ctx name a plan → IsOf plan (Held.composite index collector h)
        → (depth : ℕ) → StandsTo matches depth a
        (documents_at meaning.segment (docs_taken parent taken)) (Some (as_composite c))
    composite-stands meaning taken trail name a plan asked own zero = tt
    composite-stands meaning taken trail name a plan asked own (suc depth) =
        let node = composite-node meaning ctx name a plan index collector h asked own in
        let documents = documents_at meaning.segment (docs_taken parent taken) in
        let given = trail.right.0 in
        let for = trail.right.3 req found in
        let page_is = told meaning.segment (meaning.after_at index) taken given for.0 in
        let same = same_Some node.at.0 req (sym node.at.1 ∙ found) in
        let sources_are : req.req.now.sources ≡ node.asked.sources =
        ap (λ (r : CompositeAggReqData). r.req.now.sources) (sym same) ∙ node.at.3 in
        let size_is : req.size ≡ node.asked.size =
        ap (λ (r : CompositeAggReqData). r.size) (sym same) ∙ node.at.4 in
        let Below : List Fields → Results → Type 0 =
        NamesStand matches (StandsTo matches depth) (below_of a) in
        let right : All (IsRight Below ctx h req.req.now.sources documents) page =
        λ k d within. record {
          counted = page_is.counted k d within;
          stands = λ held stands. below-stands meaning ctx trail.meant given trail.right.2
              (Some (get_or page k d).bucket_id)
              (documents_with req.req.now.sources documents (get_or page k d).key) held h
              collector.hands_on handed trail.right.4 stands
              (λ hands. page_is.passed (hands, none) k d within)
              (λ hands. page_is.within (hands, none) trail.within k d within)
              (below_of a) node.plans node.below node.group depth;
        } in
        let subs = entries-stand Below ctx h req.req.now.sources documents page es are
        (recursion_from_All (IsRight Below ctx h req.req.now.sources documents) page right) in
        let made : CompositeStands Below node.asked documents
        (composite_of (rules_of node.asked.sources) node.asked.size es) =
        stands-made Below node.asked documents (rules_of node.asked.sources) node.asked.size es
        (inl (refl, refl))
        (subst (GroupsStandFor node.asked.sources node.asked.size
        (bound_of node.asked.sources node.asked.after) documents)
        (sym (counts-entries ctx h page es are))
        (subst (λ after. GroupsStandFor node.asked.sources node.asked.size
        (bound_of node.asked.sources after) documents (map entry_group page)) node.at.5
        (subst (λ size. GroupsStandFor node.asked.sources size
        (bound_of node.asked.sources (meaning.after_at index)) documents (map entry_group page))
        size_is
        (subst (λ sources. GroupsStandFor sources req.size
        (bound_of sources (meaning.after_at index)) documents (map entry_group page)) sources_are
        page_is.groups))))
        (All-from_recursion (EntryStands Below node.asked.sources documents) es
        (subst (λ sources. AllByRecursion (EntryStands Below sources documents) es) sources_are
        subs)) in
        let here : CompositeStands Below node.asked documents c =
        subst (CompositeStands Below node.asked documents)
        (sym (is ∙ (λ i. composite_of (rules_of (sources_are i)) (size_is i) es))) made in
        subst (λ (v : AggregationVariants QueryTree).
        PartsStand matches (NamesStand matches (StandsTo matches depth)) v (below_of a) documents
        (parts_of (as_composite c))) (sym node.agg_is)
        (subst (PartsStand matches (NamesStand matches (StandsTo matches depth))
        (asks.Composite node.asked) (below_of a) documents)
        (sym (parts-composite (buckets.Composite c) c refl)) here)
