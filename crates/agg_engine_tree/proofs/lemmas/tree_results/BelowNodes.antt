-- The results below a node, whether it hands its documents on or has nothing below it.
use Rattle.std.proofs.Common.{◌≡◌, ◌<◌, ℕ, List, [], ◌∷◌, Bool, true, Option, None, Some, inl, inr}
use Rattle.std.proofs.Common.{refl, sym}
use Rattle.std.proofs.Common.{subst}
use Rattle.std.specs.List.{All}
use Rattle.std.proofs.lemmas.List.Elements.{All-nil}
use Rattle.agg_values.specs.Names.{value_of}
use Rattle.agg_segment.specs.storage.Document.{Fields}
use Rattle.agg_segment.specs.Query.{matches}
use Rattle.agg_segment.specs.Segment.{documents_at}
use Rattle.agg_segment.specs.declared.query.QueryTree.{QueryTree}
use Rattle.agg_request_tree.specs.Request.{Request}
use Rattle.agg_request_tree.specs.declared.aggregation.Aggregation.{Aggregation}
use Rattle.agg_results.specs.intermediate_results.Intermediate.{Held as Results}
use Rattle.agg_results.specs.StandsFor.{StandsFor, StandsTo}
use Rattle.agg_engine_tree.specs.segment_context.Context.{ArePlansOf, IsMeant, Meaning}
use Rattle.agg_engine_tree.specs.segment_context.Plan.{Plans}
use Rattle.agg_engine_tree.specs.declared.segment_context.context.PerRequestAggSegCtx.{
  PerRequestAggSegCtx,
}
use Rattle.agg_engine_tree.specs.collector_tree.Tree.{Held, IsFor, IsGroupOf, IsHandedTo, nothing}
use Rattle.agg_engine_tree.specs.tree_results.Results.{AreDocsOf, GroupStands, IsTrail, docs_taken}

module _ (meaning : Meaning) (ctx : PerRequestAggSegCtx) (meant : IsMeant meaning ctx)
    (given : List (ℕ × ℕ)) (visits : ℕ) (id : Option ℕ) (documents : List Fields)
    (held : Results) where
  -- results of no names stand for all documents
  no-names : (request : Request QueryTree) (others : List Fields) → request ≡ []
      → StandsFor matches request others held → StandsFor matches request documents held
  no-names request others none stands depth = record {
    each = subst (All (λ (a : List ℕ × Aggregation QueryTree).
        StandsTo matches depth a.1 documents (value_of a.0 held))) (sym none)
        (All-nil (λ (a : List ℕ × Aggregation QueryTree).
        StandsTo matches depth a.1 documents (value_of a.0 held)));
    known = (stands depth).known;
  }

  no-request : (request : Request QueryTree) (plans : Plans)
      → ArePlansOf meaning ctx request plans → IsGroupOf plans nothing → request ≡ []
  no-request [] Plans.none asked group = refl
  no-request [] (Plans.more plan plans) asked group = absurd asked
  no-request (a ∷ request) Plans.none asked group = absurd asked
  no-request (a ∷ request) (Plans.more plan plans) asked group = absurd group

  -- they stand for the documents that were handed on
  pub below-stands : (h : Held) (hands_on : Bool) → IsHandedTo hands_on h
      → IsFor meaning ctx h given visits → GroupStands ctx h id held
      → (hands_on ≡ true → documents_at meaning.segment (docs_taken id given) ≡ documents)
      → (hands_on ≡ true → AreDocsOf meaning.segment (docs_taken id given))
      → (request : Request QueryTree) (plans : Plans)
      → ArePlansOf meaning ctx request plans → IsGroupOf plans h
      → StandsFor matches request documents held
  below-stands h hands_on (inl hands) right stands same within request plans asked group =
      let trail : IsTrail meaning ctx h id given = record {
        meant = meant;
        visits = visits;
        right = right;
        within = within hands;
      } in
      subst (λ ds. StandsFor matches request ds held) (same hands)
      (stands meaning given trail request plans asked group)
  below-stands h hands_on (inr none) right stands same within request plans asked group =
      let here = subst (IsGroupOf plans) none group in
      no-names request (documents_at meaning.segment (docs_taken id []))
      (no-request request plans asked here)
      (stands meaning [] (trail-none id) request plans asked group)
    where
      none-taken : (id : Option ℕ) → docs_taken id [] ≡ []
      none-taken None = refl
      none-taken (Some id) = refl

      trail-none : (id : Option ℕ) → IsTrail meaning ctx h id []
      trail-none id = record {
        meant = meant;
        visits = visits;
        right = subst (λ k. IsFor meaning ctx k [] visits) (sym none)
            (subst (λ k. IsFor meaning ctx k given visits) none right);
        within = subst (AreDocsOf meaning.segment) (sym (none-taken id))
            (All-nil (λ doc. doc < meaning.segment.count));
      }
