-- A tree of collectors that is right for the documents that it took.
use Rattle.std.proofs.Common.{◌≤◌, ◌<◌, ◌+◌, ◌*◌, ◌++◌, ◌≡◌, ℕ, List, [], ◌∷◌, Bool, Some, length}
use Rattle.std.proofs.Common.{map, refl, sym, ap, subst}
use Rattle.std.specs.List.{All}
use Rattle.std.proofs.lemmas.List.FromFn.{length-map-range_with_len}
use Rattle.agg_cache.specs.Waiting.{docs_of, is_id, under}
use Rattle.agg_cache.proofs.UnderIds.{docs_of-same}
use Rattle.agg_segment.specs.Query.{matches}
use Rattle.agg_segment.specs.Segment.{document_at, documents_at, documents_of}
use Rattle.agg_segment.specs.declared.query.QueryTree.{QueryTree}
use Rattle.agg_request_tree.specs.Names.{NamesAscend}
use Rattle.agg_request_tree.specs.Request.{Request}
use Rattle.agg_composite.specs.buckets.Visits.{docs_in}
use Rattle.agg_results.specs.intermediate_results.Intermediate.{Held as Results}
use Rattle.agg_results.specs.StandsFor.{StandsFor}
use Rattle.agg_engine_tree.specs.segment_context.Context.{Meaning}
use Rattle.agg_engine_tree.specs.segment_context.Plan.{Plans, plan_of, plans_of}
use Rattle.agg_engine_tree.specs.declared.segment_context.context.PerRequestAggSegCtx.{
  PerRequestAggSegCtx,
}
use Rattle.agg_engine_tree.specs.collector_tree.Tree.{Held, Takes}
use Rattle.agg_engine_tree.proofs.lemmas.collector_tree.Levels.{same-plans}
use Rattle.agg_engine_tree.specs.tree_results.Names.{HasNamesApart}
use Rattle.agg_engine_tree.specs.tree_results.Results.{AreDocsOf, GroupStands, IsTrail}
use Rattle.agg_engine_tree.proofs.lemmas.tree_results.ApartNames.{apart-group}
use Rattle.agg_engine.specs.snapshot_results.Trees.{IsRight}

-- the numbers of pairs under a parent
pub docs_in-under : (docs : List ℕ) → docs_in (under 0 docs) ≡ docs
docs_in-under [] = refl
docs_in-under (doc ∷ docs) = ap (λ ds. doc ∷ ds) (docs_in-under docs)

module _ (ctx : PerRequestAggSegCtx) (request : Request QueryTree) (meaning : Meaning) where
  abbrev plans : Plans
  plans = plans_of (map plan_of ctx.agg_tree)

  -- a tree stays right for all that it takes
  pub right-more : (pairs : List (ℕ × ℕ)) (all : Bool) (old new : Held) (steps steps_now : ℕ)
      → Takes ctx pairs all old new steps steps_now → (taken : List (ℕ × ℕ)) (visits : ℕ)
      → IsRight ctx request meaning old taken visits
      → (visits_now : ℕ) × IsRight ctx request meaning new (taken ++ pairs) visits_now
      × (visits ≤ visits_now)
      × (steps + visits_now ≤ steps_now + visits)
      × (steps_now + 3 * visits ≤ steps + 3 * visits_now)
  right-more pairs all old new steps steps_now took taken visits right =
      let now = took.takes meaning right.context.meant taken visits right.right in (
        now.0,
        record {
          context = right.context;
          nodes = same-plans plans old new took.nodes right.nodes;
          fits = took.fits right.fits;
          right = now.1;
        },
        now.2,
        now.3,
        now.4,
      )

  module _ (h : Held) (docs : List ℕ) (visits : ℕ)
      (right : IsRight ctx request meaning h (under 0 docs) visits) where
    -- its names are apart
    pub right-apart : NamesAscend request → HasNamesApart ctx h
    right-apart names = apart-group meaning ctx h request plans right.context.tree right.nodes names

    -- the results of a tree are those of the documents that it took under the first parent
    pub right-stands : All (λ doc. doc < length (documents_of meaning.segment)) docs
        → (results : Results) → GroupStands ctx h (Some 0) results
        → StandsFor matches request (documents_at meaning.segment docs) results
    right-stands within results stands =
        let long = length-map-range_with_len (document_at meaning.segment) 0
        meaning.segment.count in
        let same = docs_of-same 0 docs in
        let are : AreDocsOf meaning.segment (docs_of (is_id 0) (under 0 docs)) =
        subst (AreDocsOf meaning.segment) (sym same)
        (subst (λ n. All (λ doc. doc < n) docs) long within) in
        let trail : IsTrail meaning ctx h (Some 0) (under 0 docs) = record {
          meant = right.context.meant;
          visits = visits;
          right = right.right;
          within = are;
        } in
        subst (λ ds. StandsFor matches request (documents_at meaning.segment ds) results) same
        (stands meaning (under 0 docs) trail request plans right.context.tree right.nodes)
