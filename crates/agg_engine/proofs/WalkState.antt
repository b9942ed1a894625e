-- How far a walk has come, whatever its request.
use Rattle.std.proofs.Common.{◌≡◌, ◌≢◌, ◌≤◌, ℕ, List, [], ◌∷◌, ◌++◌, Bool, true, false}
use Rattle.std.proofs.Common.{refl, sym, subst, inl, inr, append_assoc, append-nil}
use Rattle.std.specs.List.{All}
use Rattle.std.proofs.lemmas.List.Elements.{All-nil, All-push}
use Rattle.agg_values.specs.Names.{Named}
use Rattle.agg_values.specs.Nothing.{NoneIs}
use Rattle.agg_values.specs.declared.after_key.AfterKey.{AfterKey}
use Rattle.agg_cache.specs.Limits.{Limits}
use Rattle.agg_segment.specs.storage.Document.{Fields}
use Rattle.agg_segment.specs.declared.query.QueryTree.{QueryTree}
use Rattle.agg_request_tree.specs.Request.{Request}
use Rattle.agg_results.specs.final_results.BucketCount.{results_buckets}
use Rattle.agg_results.specs.declared.final_results.types.AggregationResults.{AggregationResults}
use Rattle.agg_request_tree.specs.ChangedRequest.{request_after}
use Rattle.agg_engine.specs.Refusals.{SnapshotRefusedAtLeast, SnapshotRefusedAtMost}
use Rattle.agg_engine.specs.Refusals.{WalkRefusedAtLeast}
use Rattle.agg_engine.specs.Refusals.{WalkRefusedAtMost}
use Rattle.agg_segment.specs.SnapshotDocuments.{SnapshotDocuments}
use Rattle.agg_engine.specs.Walk.{AreResultsAt, IfFull, IsWalk, after_in}
use Rattle.agg_engine.specs.declared.walk.error.WalkError.{WalkError}
use Rattle.agg_engine.proofs.OneWalk.{results-same}

-- the pages so far, and how the walk of the snapshots that are left goes on with a request
pub record WalkState {B : Type 0} (is_match : B → Fields → Bool) (limits : Limits)
    (name : List ℕ) (query : QueryTree) (request : Request B) (snapshots : List SnapshotDocuments)
    (now : Request B) (rest : List SnapshotDocuments) (pages : List AggregationResults)
    : Type 0 where
  pub few : All (λ page. results_buckets page ≤ limits.bucket_limit) pages
  pub goes_on : (more : List AggregationResults) (ended : Bool)
      → IsWalk is_match name query now rest more ended
      → IsWalk is_match name query request snapshots (pages ++ more) ended
  pub fits : (error : WalkError)
      → WalkRefusedAtLeast is_match limits name query request snapshots error
      → WalkRefusedAtLeast is_match limits name query now rest error
  pub reaches : (error : WalkError) → WalkRefusedAtMost is_match limits name query now rest error
      → WalkRefusedAtMost is_match limits name query request snapshots error

-- a full page goes on
pub full : (after : Named AfterKey) (WithRoom Full : Type 0) → after ≢ [] → Full
    → IfFull after WithRoom Full
full [] WithRoom Full some goes_on = absurd (some refl)
full (k ∷ after) WithRoom Full some goes_on = goes_on

module _ {B : Type 0} (is_match : B → Fields → Bool) (limits : Limits) (name : List ℕ)
    (query : QueryTree) (request : Request B) (snapshots : List SnapshotDocuments) where
  -- how far the walk has come
  abbrev pub State : Request B → List SnapshotDocuments → List AggregationResults → Type 0
  State = WalkState is_match limits name query request snapshots

  -- before the first snapshot
  pub state-start : State request snapshots []
  state-start = record {
    few = All-nil (λ page. results_buckets page ≤ limits.bucket_limit);
    goes_on = λ more ended walk. walk;
    fits = λ error refused. refused;
    reaches = λ error refused. refused;
  }

  module _ (now : Request B) where
    -- after the last snapshot
    pub state-out : (pages : List AggregationResults) → State now [] pages
        → IsWalk is_match name query request snapshots pages false
    state-out pages state =
        subst (λ rs. IsWalk is_match name query request snapshots rs false) (append-nil pages)
        (state.goes_on [] false refl)

    module _ (s : SnapshotDocuments) (rest : List SnapshotDocuments)
        (pages : List AggregationResults) (state : State now (s ∷ rest) pages) where
      -- the request may be refused at the next snapshot
      pub state-refused : (error : WalkError)
          → SnapshotRefusedAtMost is_match limits name query now s error
          → WalkRefusedAtMost is_match limits name query request snapshots error
      state-refused error refused = state.reaches error (inl refused)

      module _ (r : AggregationResults) (is : AreResultsAt is_match name query now s r)
          (fit : NoneIs (SnapshotRefusedAtLeast is_match limits name query now s))
          (short : results_buckets r ≤ limits.bucket_limit) where
        -- the request after this page
        abbrev pub next : Request B
        next = request_after name (after_in name r) now

        -- the pages with this one have no more buckets than the limit
        pub few-more : All (λ p. results_buckets p ≤ limits.bucket_limit) (pages ++ r ∷ [])
        few-more = All-push (λ p. results_buckets p ≤ limits.bucket_limit) pages r state.few short

        -- a refusal from here on comes after this page
        refused-goes_on : (error : WalkError)
            → WalkRefusedAtLeast is_match limits name query now (s ∷ rest) error
            → (after_in name r ≢ []) × WalkRefusedAtLeast is_match limits name query next rest error
        refused-goes_on error refused =
            elim refused [
              | inl h ↦ absurd (fit error h)
              | inr h ↦
                  let same = results-same is_match name query now s h.1.0 r h.1.1 is in (
                    subst (λ p. after_in name p ≢ []) same h.1.2,
                    subst (λ p. WalkRefusedAtLeast is_match limits name query
                        (request_after name (after_in name p) now) rest error) same h.1.3,
                  )
            ]

        -- a page that isn't full ends the walk
        pub state-ended : after_in name r ≡ []
            → IsWalk is_match name query request snapshots (pages ++ r ∷ []) true
        state-ended none =
            let nothing : List AggregationResults = [] in
            state.goes_on (r ∷ nothing) true (
              is,
              subst (λ (after : Named AfterKey). IfFull after ((nothing ≡ []) × (true ≡ true))
                  (IsWalk is_match name query (request_after name after now) rest nothing true))
                  (sym none) (refl, refl),
            )

        pub state-ended-fits : after_in name r ≡ []
            → NoneIs (WalkRefusedAtLeast is_match limits name query request snapshots)
        state-ended-fits none error refused =
            (refused-goes_on error (state.fits error refused)).0 none

        -- a full page goes on
        pub state-more : after_in name r ≢ [] → State next rest (pages ++ r ∷ [])
        state-more some = record {
          few = few-more;
          goes_on = λ more ended walk. rw (append_assoc pages (r ∷ []) more)
              (state.goes_on (r ∷ more) ended (
                is,
                full (after_in name r) ((more ≡ []) × (ended ≡ true))
                    (IsWalk is_match name query next rest more ended) some walk,
              ));
          fits = λ error refused. (refused-goes_on error (state.fits error refused)).1;
          reaches = λ error refused. state.reaches error (inr (fit, (r, is, some, refused)));
        }
