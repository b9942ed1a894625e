-- The tree of a segment's context takes the documents of the segment that match.
use Rattle.std.proofs.Common.{◌≡◌, ◌≤◌, ◌<◌, ◌+◌, ◌*◌, ℕ, List, [], ◌∷◌, false, true, Some}
use Rattle.std.proofs.Common.{Ok, length, map, refl, sym, ap, ◌∙◌, subst, arith, append-nil}
use Rattle.std.specs.List.{All}
use Rattle.std.proofs.lemmas.List.Elements.{All-filter}
use Rattle.agg_cache.specs.Waiting.{under}
use Rattle.agg_segment.specs.storage.Document.{HasNumbersOf64Bits}
use Rattle.agg_segment.specs.Query.{matches}
use Rattle.agg_segment.specs.Segment.{Stored, documents_at, documents_of}
use Rattle.agg_segment.specs.declared.query.QueryTree.{QueryTree}
use Rattle.agg_request_tree.specs.Ranges.{HasStartOutOfRange}
use Rattle.agg_request_tree.specs.Request.{Request}
use Rattle.agg_request_tree.specs.Uncut.{CountsTooMany}
use Rattle.agg_composite.specs.buckets.Visits.{docs_in}
use Rattle.agg_results.specs.declared.intermediate_results.results.IntermediateAggregationResults
    as held
use held.{IntermediateAggregationResults}
use Rattle.agg_results.specs.StandsFor.{StandsFor}
use Rattle.agg_engine_tree.specs.segment_context.Context.{Meaning}
use Rattle.agg_engine_tree.specs.segment_context.Plan.{plan_of, plans_of}
use Rattle.agg_engine_tree.specs.declared.segment_context.context.PerRequestAggSegCtx.{
  PerRequestAggSegCtx,
}
use Rattle.agg_engine_tree.specs.collector_tree.Counting.{counted_of}
use Rattle.agg_engine_tree.specs.collector_tree.Tree.{Held, Takes}
use Rattle.agg_engine_tree.proofs.lemmas.collector_tree.TakenParts.{takes-both}
use Rattle.agg_engine_tree.specs.tree_results.Names.{HasNamesApart}
use Rattle.agg_engine_tree.specs.tree_results.Results.{GroupStands}
use Rattle.agg_engine.specs.snapshot_results.Answers.{AnswersResults}
use Rattle.agg_engine.specs.snapshot_results.Contexts.{IsContextOf, MayBeCollected}
use Rattle.agg_engine.specs.snapshot_results.Documents.{matching_in}
use Rattle.agg_engine.specs.snapshot_results.Steps.{past_named}
use Rattle.agg_engine.specs.snapshot_results.Trees.{IsNew, IsRight, MayBeTaken, MayTake, MostSteps}
use Rattle.agg_engine.specs.declared.snapshot_results.context.SegmentContext.{SegmentContext}
use Rattle.agg_engine.proofs.lemmas.snapshot_results.Contexts.{documents-here, matching-one}
use Rattle.agg_engine.proofs.lemmas.snapshot_results.LeastVisits.{group-least}
use Rattle.agg_engine.proofs.lemmas.snapshot_results.RightTrees.{docs_in-under, right-apart}
use Rattle.agg_engine.proofs.lemmas.snapshot_results.RightTrees.{right-more, right-stands}
use Rattle.agg_engine.proofs.lemmas.snapshot_results.TakenParts.{may-second, most-both}

module _ (request : Request QueryTree) (query : QueryTree) (segment : Stored)
    (given : SegmentContext) (ready : MayBeCollected request query (segment ∷ []) (given ∷ []))
    (docs : List ℕ) (same : docs ≡ given.docs.items) where
  abbrev pub ctx : PerRequestAggSegCtx
  ctx = given.aggregations.per_request

  abbrev is : IsContextOf request query segment given
  is = ready.each.0

  abbrev pub meaning : Meaning
  meaning = is.meaning

  -- the documents that match
  documents-of : (taken : List ℕ) → taken ≡ docs
      → documents_at meaning.segment taken ≡ matching_in query (segment ∷ [])
  documents-of taken taken_are =
      documents-here request query segment given is meaning is.means.same taken
      (taken_are ∙ same)

  pub documents-taken : documents_at meaning.segment (docs_in (under 0 docs))
      ≡ matching_in query (segment ∷ [])
  documents-taken = documents-of (docs_in (under 0 docs)) (docs_in-under docs)

  may : MayBeTaken request meaning (under 0 docs)
  may = record {
    numbers = subst (All HasNumbersOf64Bits)
        (sym (matching-one query segment) ∙ sym documents-taken)
        (All-filter (matches query) HasNumbersOf64Bits (documents_of segment) is.numbers);
    range = subst (λ ds. ¬ (HasStartOutOfRange request ds)) (sym documents-taken) ready.range;
    few = subst (λ ds. ¬ (CountsTooMany matches request ds)) (sym documents-taken) ready.few;
  }

  -- a new tree is right for no documents, and may take those that match
  pub right-new : (h : Held) → IsNew ctx given.reader.now h → IsRight ctx request meaning h [] 0
  right-new h new = record {
    context = is.means.aggregations;
    nodes = new.nodes;
    fits = new.fits;
    right = new.right meaning (is.means.same ∙ sym is.reader) is.means.aggregations.meant;
  }

  pub may-new : (h : Held) → IsNew ctx given.reader.now h → MayTake ctx h (under 0 docs)
  may-new h new = record {
    request = request;
    meaning = meaning;
    taken = [];
    visits = 0;
    right = right-new h new;
    all = may;
  }

  -- whatever is answered to those, the steps are few
  pub most-taken : (h : Held) → IsNew ctx given.reader.now h → (steps steps_now : ℕ)
      → MostSteps ctx (under 0 docs) h steps steps_now
      → steps_now ≤ steps + 3 * counted_of matches request (matching_in query (segment ∷ []))
  most-taken h new steps steps_now taken =
      omega (
        arith,
        taken.most request meaning [] 0 (right-new h new),
        ap (counted_of matches request) documents-taken,
      )

  module _ (old mid : Held) (steps steps_mid : ℕ)
      (made : IsNew ctx given.reader.now old)
      (took : Takes ctx (under 0 docs) false old mid steps steps_mid) where
    -- after those it may be flushed
    pub may-flush : MayTake ctx mid []
    may-flush =
        may-second ctx (under 0 docs) [] old mid steps steps_mid took
        (subst (MayTake ctx old) (sym (append-nil (under 0 docs))) (may-new old made))

    -- whatever is answered to that, the steps are few
    pub most-flushed : (steps_now : ℕ) → MostSteps ctx [] mid steps_mid steps_now
        → steps_now ≤ steps + 3 * counted_of matches request (matching_in query (segment ∷ []))
    most-flushed steps_now flushed =
        let both = most-both ctx (under 0 docs) [] old mid steps steps_mid took steps_now flushed in
        omega (
          arith,
          both.most request meaning [] 0 (right-new old made),
          ap (λ pairs. counted_of matches request (documents_at meaning.segment (docs_in pairs)))
              (append-nil (under 0 docs)),
          ap (counted_of matches request) documents-taken,
        )

    module _ (new : Held) (steps_now : ℕ)
        (flushed : Takes ctx [] true mid new steps_mid steps_now) where
      both : Takes ctx (under 0 docs) true old new steps steps_now
      both =
          subst (λ pairs. Takes ctx pairs true old new steps steps_now)
          (append-nil (under 0 docs))
          (takes-both ctx (under 0 docs) [] old mid steps steps_mid took true new steps_now flushed)

      -- it is right for what it took
      pub right-flushed : (visits : ℕ) × IsRight ctx request meaning new (under 0 docs) visits
          × (steps + visits ≤ steps_now)
      right-flushed =
          let now = right-more ctx request meaning (under 0 docs) true old new steps steps_now both
          [] 0 (right-new old made) in
          (now.0, now.1, omega (arith, now.3))

      -- its names are apart
      pub apart-flushed : HasNamesApart ctx new
      apart-flushed =
          let now = right-flushed in
          right-apart ctx request meaning new docs now.0 now.1 ready.names

      within-taken : All (λ doc. doc < length (documents_of meaning.segment)) docs
      within-taken =
          subst (λ s. All (λ doc. doc < length (documents_of s)) docs) (sym is.means.same)
          (subst (All (λ doc. doc < length (documents_of segment))) (sym same) is.within)

      -- its results are those of the documents that match
      pub answers-flushed : (results : IntermediateAggregationResults)
          → GroupStands ctx new (Some 0) results.results
          → MostSteps ctx [] mid steps_mid steps_now
          → AnswersResults request (matching_in query (segment ∷ [])) steps steps_now (Ok results)
      answers-flushed results stands most =
          let now = right-flushed in
          record {
            stands = subst (λ ds. StandsFor matches request ds results.results)
                (documents-of docs refl)
                (right-stands ctx request meaning new docs now.0 now.1 within-taken
                results.results stands);
            least = λ name. omega (
              arith,
              now.2,
              group-least meaning ctx (under 0 docs) name (plans_of (map plan_of ctx.agg_tree))
                  request now.1.context.tree new now.1.nodes now.0 now.1.right,
              ap (past_named name request) documents-taken,
            );
            most = most-flushed steps_now most;
          }
