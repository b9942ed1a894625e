-- A walk goes on after a full page, and ends with another.
use Rattle.std.proofs.Common.{◌≡◌, ◌≢◌, ◌≤◌, ◌+◌, ◌*◌, ℕ, List, [], ◌∷◌, ◌++◌, Bool, true}
use Rattle.std.proofs.Common.{Option, None, Some, Result, Ok, sym, ap, ◌∙◌, subst, arith}
use Rattle.std.specs.List.{All}
use Rattle.agg_values.specs.Names.{Named}
use Rattle.agg_values.specs.Nothing.{NoneIs}
use Rattle.agg_values.specs.declared.after_key.AfterKey.{AfterKey}
use Rattle.agg_cache.specs.Limits.{Limits}
use Rattle.agg_segment.specs.storage.Document.{Fields}
use Rattle.agg_segment.specs.declared.query.QueryTree.{QueryTree}
use Rattle.agg_request_tree.specs.Occurrences.{bound_of}
use Rattle.agg_request_tree.specs.Request.{Request}
use Rattle.agg_request_tree.specs.declared.aggregation.CompositeAggregation.{CompositeAggregation}
use Rattle.agg_request_tree.proofs.Faults.{IsSound-intervals, IsSound-names}
use Rattle.agg_results.specs.final_results.BucketCount.{results_buckets}
use Rattle.agg_results.specs.declared.final_results.types.AggregationResults.{AggregationResults}
use Rattle.agg_engine_tree.specs.segment_context.Pages.{paged}
use Rattle.agg_request_tree.specs.ChangedRequest.{request_after, request_at_size}
use Rattle.agg_engine_tree.specs.declared.segment_context.params.Page.{Page}
use Rattle.agg_engine.specs.snapshot_results.Steps.{counted_of, past_named}
use Rattle.agg_engine.specs.PageAnswers.{AnswersPage, IsShown, MayGoOnFrom}
use Rattle.agg_engine.specs.Refusals.{WalkRefusedAtLeast}
use Rattle.agg_segment.specs.SnapshotDocuments.{SnapshotDocuments}
use Rattle.agg_engine.specs.Walk.{IsWalk, after_in, matching_documents}
use Rattle.agg_engine.specs.declared.walk.error.WalkError.{WalkError}
use Rattle.agg_engine.proofs.AfterKeys.{HasNoNull, MayGoOnFrom-after}
use Rattle.agg_engine.proofs.ChangedCounts.{counted-here, past-sized}
use Rattle.agg_engine.proofs.NamedPlaces.{sound-named}
use Rattle.agg_engine.proofs.PageBound.{after-occurs, shown-tuple}
use Rattle.agg_engine.proofs.PageShown.{page_shown}
use Rattle.agg_engine.proofs.PagedRequests.{here, here-named, later-key, sized}
use Rattle.agg_engine.proofs.StepsTaken.{IsCounting, counting-more}
use Rattle.agg_engine.proofs.WalkLoop.{IsWalking}
use Rattle.agg_engine.proofs.WalkState.{WalkState, few-more, state-ended, state-ended-fits}
use Rattle.agg_engine.proofs.WalkState.{state-more}

-- where there is no next key, none is shown
none-shown : (next : Option (Named AfterKey)) (shown : Named AfterKey) → IsShown next shown
    → next ≡ None → shown ≡ []
none-shown next shown is none = subst (λ n. IsShown n shown) none is

-- where there is one, it is the one that is shown
some-shown : (next : Option (Named AfterKey)) (shown given : Named AfterKey) → IsShown next shown
    → next ≡ Some given → (given ≡ shown) × (shown ≢ [])
some-shown next shown given is some =
    let here = subst (λ n. IsShown n shown) some is in (
      here.0,
      λ none. here.1 (here.0 ∙ none),
    )

-- what a call for a page answers at a snapshot, where a request goes on from an after key
abbrev pub AnswersAt : {B : Type 0} → (B → Fields → Bool) → Limits → List ℕ → QueryTree
    → Request B → Named AfterKey → SnapshotDocuments → ℕ → ℕ
    → Result AggregationResults WalkError → Type 0
AnswersAt is_match limits name query request after s =
    AnswersPage is_match limits query
    (request_at_size name s.page_size (request_after name after request)) s.segments

-- the page is set, and its segments are those of the snapshot
pub answers-at : {B : Type 0} (is_match : B → Fields → Bool) (limits : Limits) (name : List ℕ)
    (query : QueryTree) (request : Request B) (after : Named AfterKey) (s : SnapshotDocuments)
    (page : Option Page) (segments : List (List Fields))
    (steps steps_now : ℕ) (result : Result AggregationResults WalkError)
    → page ≡ Some (record { name = name; size = s.page_size; after = after })
    → segments ≡ s.segments
    → AnswersPage is_match limits query (paged page request) segments steps steps_now result
    → AnswersAt is_match limits name query request after s steps steps_now result
answers-at is_match limits name query request after s page segments steps steps_now result page_is
    are answer =
    subst (λ all. AnswersPage is_match limits query
    (request_at_size name s.page_size (request_after name after request)) all steps steps_now
    result) are
    (subst (λ (p : Option Page). AnswersPage is_match limits query (paged p request) segments steps
    steps_now result) page_is answer)

-- ---- the steps of a page

module _ {B : Type 0} (is_match : B → Fields → Bool) (limits : Limits) (name : List ℕ)
    (query : QueryTree) (request : Request B) (after : Named AfterKey) (s : SnapshotDocuments)
    (steps steps_now : ℕ) where
  -- at most three for each document that the request counts
  pub page-most : (result : Result AggregationResults WalkError)
      → AnswersAt is_match limits name query request after s steps steps_now result
      → steps_now ≤ steps + 3 * counted_of is_match request (matching_documents query s)
  page-most result answer =
      let most = answer.most in
      let same = counted-here is_match name s.page_size after request (matching_documents query s)
      in omega arith

  -- an Ok has at least one for each occurrence past its bound
  pub page-least : (results : AggregationResults)
      → AnswersAt is_match limits name query request after s steps steps_now (Ok results)
      → steps + past_named name (request_after name after request) (matching_documents query s)
      ≤ steps_now
  page-least results answer =
      let least = answer.least name in
      let same = past-sized name s.page_size (request_after name after request)
      (matching_documents query s) in
      omega arith

-- ---- after a page

module _ {B : Type 0} {is_match : B → Fields → Bool} {limits : Limits} {name : List ℕ}
    {query : QueryTree} {request : Request B} {snapshots : List SnapshotDocuments}
    {composite : CompositeAggregation} {after : Named AfterKey} {s : SnapshotDocuments}
    {rest : List SnapshotDocuments} {pages : List AggregationResults}
    (w : IsWalking is_match limits name query request snapshots composite after (s ∷ rest) pages)
    {before later : ℕ} {results : AggregationResults}
    (answer : AnswersAt is_match limits name query request after s before later (Ok results)) where
  -- the request as it goes on
  abbrev now : Request B
  now = request_after name after request

  -- the pages with this one have no more buckets than the limit
  pub walking-few : All (λ p. results_buckets p ≤ limits.bucket_limit) (pages ++ results ∷ [])
  walking-few =
      few-more is_match limits name query request snapshots now s rest pages w.state results
      answer.results answer.fits answer.buckets

  -- a composite goes on from the key that its page shows
  goes_on : All HasNoNull (matching_documents query s) → after_in name results ≢ []
      → MayGoOnFrom composite.sources (after_in name results)
  goes_on no_null some =
      let asked = sized name request composite w.may.names w.may.named s.page_size after in
      let documents = matching_documents query s in
      let sound = sound-named name composite request w.may.named w.may.sound in
      let page = page_shown is_match name
      (here name request composite w.may.names w.may.named s.page_size after) documents results
      asked answer.results
      (here-named name request composite w.may.names w.may.named s.page_size after) in
      let key = shown-tuple composite.sources _ (after_in name results) page.2 some in
      subst (MayGoOnFrom composite.sources) (sym key.2)
      (MayGoOnFrom-after composite.sources documents key.0 (IsSound-names composite sound)
      (IsSound-intervals composite sound) no_null
      (after-occurs composite.sources s.page_size (bound_of composite.sources after) documents
      page.0 key.0 page.1 key.1))

  -- with the after key that it shows
  module _ (next : Option (Named AfterKey)) (next_is : IsShown next (after_in name results)) where
    -- the last page
    pub walking-ended : next ≡ None
        → IsWalk is_match name query request snapshots (pages ++ results ∷ []) true
    walking-ended none =
        state-ended is_match limits name query request snapshots now s rest pages w.state results
        answer.results answer.fits answer.buckets (none-shown next (after_in name results) next_is
        none)

    pub walking-ended-fits : next ≡ None
        → NoneIs (WalkRefusedAtLeast is_match limits name query request snapshots)
    walking-ended-fits none =
        state-ended-fits is_match limits name query request snapshots now s rest pages w.state
        results answer.results answer.fits answer.buckets (none-shown next (after_in name results)
        next_is none)

    -- a full page
    pub walking-more : All HasNoNull (matching_documents query s) → (given : Named AfterKey)
        → next ≡ Some given
        → IsWalking is_match limits name query request snapshots composite given rest
        (pages ++ results ∷ [])
    walking-more no_null given some =
        let key = some-shown next (after_in name results) given next_is some in
        record {
          may = record {
            names = w.may.names;
            named = w.may.named;
            sound = w.may.sound;
            goes_on = subst (MayGoOnFrom composite.sources) (sym key.0) (goes_on no_null key.1);
          };
          state = subst (λ (r : Request B). WalkState is_match limits name query request snapshots r
              rest (pages ++ results ∷ []))
              (later-key name request after (after_in name results)
              ∙ ap (λ k. request_after name k request) (sym key.0))
              (state-more is_match limits name query request snapshots now s rest pages w.state
              results answer.results answer.fits answer.buckets key.1);
        }

    -- with the steps so far
    pub counting-page : (given : Named AfterKey) → next ≡ Some given → (done steps : ℕ)
        → IsCounting is_match name query request snapshots now (s ∷ rest) pages done steps before
        → IsCounting is_match name query request snapshots
        (request_after name given request) rest (pages ++ results ∷ []) (done + 1) steps later
    counting-page given some done steps counting =
        let key = some-shown next (after_in name results) given next_is some in
        subst (λ (r : Request B). IsCounting is_match name query request snapshots r rest
        (pages ++ results ∷ []) (done + 1) steps later)
        (later-key name request after (after_in name results)
        ∙ ap (λ k. request_after name k request) (sym key.0))
        (counting-more is_match name query request snapshots now s rest pages done steps before
        later counting
        (page-most is_match limits name query request after s before later (Ok results) answer)
        results (page-least is_match limits name query request after s before later results answer)
        answer.results key.1)
