-- The result of a filter's node.
use Rattle.std.proofs.Common.{◌≡◌, ◌<◌, ◌&&◌, ℕ, zero, suc, List, [], ◌∷◌, Bool, true, false, cond}
use Rattle.std.proofs.Common.{Option, Some, filter, length, refl, sym, ap, ◌∙◌, subst, arith, ltb}
use Rattle.std.specs.List.{AllByRecursion}
use Rattle.std.proofs.lemmas.Bool.Decides.{nat_tests}
use Rattle.std.proofs.lemmas.List.{length-map}
use Rattle.std.proofs.lemmas.List.Elements.{All-filter, filter_agree, recursion_from_All}
use Rattle.agg_segment.specs.storage.Document.{Fields}
use Rattle.agg_segment.specs.Query.{matches}
use Rattle.agg_segment.specs.Segment.{Stored, document_at, documents_at}
use Rattle.agg_segment.specs.declared.query.QueryTree.{QueryTree}
use Rattle.agg_request_tree.specs.Matching.{filter_matches, matching}
use Rattle.agg_request_tree.specs.Request.{below_of}
use Rattle.agg_request_tree.specs.declared.aggregation.Aggregation.{Aggregation}
use Rattle.agg_request_tree.specs.declared.aggregation.AggregationVariants.{AggregationVariants}
use Rattle.agg_request_tree.specs.declared.aggregation.AggregationVariants.TheVariants as asks
use Rattle.agg_request_tree.specs.declared.aggregation.filter.FilterQuery.{FilterQuery}
use Rattle.agg_request_tree.specs.declared.aggregation.filter.FilterQuery.TheVariants as by
use Rattle.agg_filter.specs.Filter.{Filter, FilterFor}
use Rattle.agg_filter.specs.Matching.{is_matching}
use Rattle.agg_results.specs.intermediate_results.Intermediate.{as_filter}
use Rattle.agg_results.specs.intermediate_results.Intermediate.{parts_of}
use Rattle.agg_results.specs.declared.intermediate_results as intermediate
use intermediate.results.IntermediateAggregationResults.{IntermediateAggregationResults}
use intermediate.results.IntermediateBucketResult.TheVariants as buckets
use Rattle.agg_results.proofs.lemmas.intermediate_results.ResultParts.{parts-filter}
use Rattle.agg_results.specs.StandsFor.{NamesStand, PartsStand, StandsTo}
use Rattle.agg_engine_tree.specs.segment_context.Context.{IsPlanOf, Meaning, tree_in}
use Rattle.agg_engine_tree.specs.segment_context.Plan.{Plan}
use Rattle.agg_engine_tree.specs.declared.segment_context.context.PerRequestAggSegCtx.{
  PerRequestAggSegCtx,
}
use Rattle.agg_engine_tree.specs.collector_tree.Caches.{Cache, waiting_in}
use Rattle.agg_engine_tree.specs.collector_tree.Tree.{Held, IsHandedTo, IsOf}
use Rattle.agg_engine_tree.specs.tree_results.Results.{AreDocsOf, GroupStands, IsTrail, docs_taken}
use Rattle.agg_engine_tree.proofs.lemmas.tree_results.BelowNodes.{below-stands}
use Rattle.agg_engine_tree.proofs.lemmas.tree_results.NamedNodes.{filter-node}

-- ---- the documents that match

-- a query matches what its tree does
matches-in : (query : FilterQuery QueryTree) (d : Fields)
    → matches (tree_in query) d ≡ filter_matches matches query d
matches-in (by.Tree tree) d = refl
matches-in (by.CustomBuilder tree) d = refl

module _ (tree : QueryTree) (segment : Stored) where
  kept-by : (within is : Bool) (doc : ℕ) (docs : List ℕ) (ds : List Fields) → within ≡ true
      → documents_at segment docs ≡ ds
      → documents_at segment (cond (within && is) (doc ∷ docs) docs)
      ≡ cond is (document_at segment doc ∷ ds) ds
  kept-by true true doc docs ds in_segment rest = ap (λ ds. document_at segment doc ∷ ds) rest
  kept-by true false doc docs ds in_segment rest = rest
  kept-by false is doc docs ds in_segment rest = let e : false ≡ true = in_segment in absurd (cc)

  within-test : (doc : ℕ) → doc < segment.count → ltb doc segment.count ≡ true
  within-test doc within = grind (arith, nat_tests)

  matching-by : (docs : List ℕ) → AllByRecursion (λ doc. doc < segment.count) docs
      → documents_at segment (filter (is_matching tree segment) docs)
      ≡ filter (matches tree) (documents_at segment docs)
  matching-by [] within = refl
  matching-by (doc ∷ docs) within =
      kept-by (ltb doc segment.count) (matches tree (document_at segment doc)) doc
      (filter (is_matching tree segment) docs) (filter (matches tree) (documents_at segment docs))
      (within-test doc within.0) (matching-by docs within.1)

-- the documents of a segment that match are those that the query matches
matching-at : (query : FilterQuery QueryTree) (tree : QueryTree) → tree ≡ tree_in query
    → (segment : Stored) (docs : List ℕ) → AreDocsOf segment docs
    → documents_at segment (filter (is_matching tree segment) docs)
    ≡ matching matches query (documents_at segment docs)
matching-at query tree is segment docs within =
    matching-by tree segment docs
    (recursion_from_All (λ doc. doc < segment.count) docs within)
    ∙ ap (λ t. filter (matches t) (documents_at segment docs)) is
    ∙ filter_agree (matches (tree_in query)) (filter_matches matches query) (matches-in query)
    (documents_at segment docs)

-- ---- the node

module _ (ctx : PerRequestAggSegCtx) (index : ℕ) (collector : Filter Cache) (h : Held)
    (handed : IsHandedTo collector.hands_on h) (parent id : Option ℕ) (count : ℕ)
    (below : IntermediateAggregationResults)
    (none : (id : ℕ) → waiting_in collector.cache.0 id ≡ [])
    (counted : (is_match : ℕ → Bool) (taken given : List (ℕ × ℕ))
    → FilterFor waiting_in is_match collector taken given
    → count ≡ length (filter is_match (docs_taken parent taken)))
    (passed : (is_match : ℕ → Bool) (taken given : List (ℕ × ℕ))
    → FilterFor waiting_in is_match collector taken given → collector.hands_on ≡ true
    → ((id : ℕ) → waiting_in collector.cache.0 id ≡ [])
    → docs_taken id given ≡ filter is_match (docs_taken parent taken))
    (stands : GroupStands ctx h id below.results) where
  -- its result stands for the documents that the filter took
  pub filter-stands : (meaning : Meaning) (taken : List (ℕ × ℕ))
      → IsTrail meaning ctx (Held.filter index collector h) parent taken
      → (name : List ℕ) (a : Aggregation QueryTree) (plan : Plan)
      → IsPlanOf meaning ctx name a plan → IsOf plan (Held.filter index collector h)
      → (depth : ℕ) → StandsTo matches depth a
      (documents_at meaning.segment (docs_taken parent taken))
      (Some (as_filter count below.results))
  filter-stands meaning taken trail name a plan asked is zero = tt
  filter-stands meaning taken trail name a plan asked is (suc depth) =
      let node = filter-node meaning ctx name a plan index collector h asked is in
      let tree = meaning.query_at index in
      let is_match = is_matching tree meaning.segment in
      let docs = docs_taken parent taken in
      let documents = documents_at meaning.segment docs in
      let given = trail.right.0 in
      let for = trail.right.1 in
      let matched = matching-at node.query tree node.at.3 meaning.segment docs trail.within in
      let under = below-stands meaning ctx trail.meant given trail.visits id
      (matching matches node.query documents) below.results h collector.hands_on handed
      trail.right.2 stands
      (λ hands. ap (documents_at meaning.segment)
      (passed is_match taken given for hands none) ∙ matched)
      (λ hands. subst (AreDocsOf meaning.segment) (sym (passed is_match taken given for hands none))
      (All-filter is_match (λ doc. doc < meaning.segment.count) docs trail.within))
      (below_of a) node.plans node.below node.group in
      let sized = counted is_match taken given for
      ∙ sym (length-map (filter is_match docs) (document_at meaning.segment)) ∙ ap length matched in
      subst (λ (v : AggregationVariants QueryTree).
      PartsStand matches (NamesStand matches (StandsTo matches depth)) v (below_of a) documents
      (parts_of (as_filter count below.results))) (sym node.agg_is)
      (subst (PartsStand matches (NamesStand matches (StandsTo matches depth))
      (asks.Filter (record { query = node.query })) (below_of a) documents)
      (sym (parts-filter (buckets.Filter count below) count below refl))
      (sized, under depth))
