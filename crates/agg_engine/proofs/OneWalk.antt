-- A request has one walk over the same snapshots.
use Rattle.std.proofs.Common.{◌≡◌, ℕ, List, [], ◌∷◌, Bool, true, false, refl, sym, ◌∙◌, subst}
use Rattle.agg_values.specs.Names.{Named}
use Rattle.agg_values.specs.declared.after_key.AfterKey.{AfterKey}
use Rattle.agg_segment.specs.storage.Document.{Fields}
use Rattle.agg_segment.specs.declared.query.QueryTree.{QueryTree}
use Rattle.agg_request_tree.specs.Request.{Request}
use Rattle.agg_results.specs.declared.final_results.types.AggregationResults.{AggregationResults}
use Rattle.agg_request_tree.proofs.Reorderings.{same}
use Rattle.agg_request_tree.specs.ChangedRequest.{request_after, request_at_size}
use Rattle.agg_results.proofs.ResultExists.{AreResults-exist}
use Rattle.agg_results.proofs.ResultOrders.{AreResults-reordering}
use Rattle.agg_results.specs.Results.{AreResults}
use Rattle.agg_segment.specs.SnapshotDocuments.{SnapshotDocuments}
use Rattle.agg_engine.specs.Walk.{AreResultsAt, IfFull, IsWalk, after_in, matching_documents}

-- a request has one result
pub AreResults-same : {B : Type 0} (is_match : B → Fields → Bool) (request : Request B)
    (documents : List Fields) (r q : AggregationResults)
    → AreResults is_match request documents r → AreResults is_match request documents q → r ≡ q
AreResults-same is_match request documents r q =
    AreResults-reordering is_match request documents documents r q same

module _ {B : Type 0} (is_match : B → Fields → Bool) (name : List ℕ) (query : QueryTree) where
  -- a snapshot has one result
  pub results-same : (request : Request B) (s : SnapshotDocuments) (r q : AggregationResults)
      → AreResultsAt is_match name query request s r
      → AreResultsAt is_match name query request s q → r ≡ q
  results-same request s r q =
      AreResults-same is_match (request_at_size name s.page_size request)
      (matching_documents query s) r q

  -- how the walk goes on after a page that shows this after key
  abbrev GoesOn : Request B → List SnapshotDocuments → List AggregationResults → Bool
      → Named AfterKey → Type 0
  GoesOn request snapshots pages ended after =
      IfFull after ((pages ≡ []) × (ended ≡ true))
      (IsWalk is_match name query (request_after name after request) snapshots pages ended)

  after-same : (request : Request B) (snapshots : List SnapshotDocuments)
      (pages others : List AggregationResults) (ended other : Bool) (after : Named AfterKey)
      → (IsWalk is_match name query (request_after name after request) snapshots pages ended
      → IsWalk is_match name query (request_after name after request) snapshots others other
      → (pages ≡ others) × (ended ≡ other))
      → GoesOn request snapshots pages ended after
      → GoesOn request snapshots others other after
      → (pages ≡ others) × (ended ≡ other)
  after-same request snapshots pages others ended other [] later h k =
      (h.0 ∙ sym k.0, h.1 ∙ sym k.1)
  after-same request snapshots pages others ended other (a ∷ after) later h k = later h k

  -- two walks are the same
  pub walk-same : (request : Request B) (snapshots : List SnapshotDocuments)
      (pages others : List AggregationResults) (ended other : Bool)
      → IsWalk is_match name query request snapshots pages ended
      → IsWalk is_match name query request snapshots others other
      → (pages ≡ others) × (ended ≡ other)
  walk-same request [] [] [] ended other h k = (refl, h ∙ sym k)
  walk-same request [] [] (q ∷ others) ended other h k = absurd k
  walk-same request [] (r ∷ pages) others ended other h k = absurd h
  walk-same request (s ∷ snapshots) [] others ended other h k = absurd h
  walk-same request (s ∷ snapshots) (r ∷ pages) [] ended other h k = absurd k
  walk-same request (s ∷ snapshots) (r ∷ pages) (q ∷ others) ended other h k =
      let page = results-same request s r q h.0 k.0 in
      let rest =
      after-same request snapshots pages others ended other (after_in name r)
      (walk-same (request_after name (after_in name r) request) snapshots pages others ended other)
      h.1 (subst (λ p. GoesOn request snapshots others other (after_in name p)) (sym page) k.1) in
      (λ i. page i ∷ rest.0 i, rest.1)

  -- some walk goes on after a page that shows this after key
  after-exists : (request : Request B) (snapshots : List SnapshotDocuments)
      (after : Named AfterKey)
      → ((pages : List AggregationResults) × (ended : Bool)
      × IsWalk is_match name query (request_after name after request) snapshots pages ended)
      → (pages : List AggregationResults) × (ended : Bool)
      × GoesOn request snapshots pages ended after
  after-exists request snapshots [] later = ([], true, (refl, refl))
  after-exists request snapshots (a ∷ after) later = later

  -- there is a walk
  pub walk-exists : (request : Request B) (snapshots : List SnapshotDocuments)
      → (pages : List AggregationResults) × (ended : Bool)
      × IsWalk is_match name query request snapshots pages ended
  walk-exists request [] = ([], false, refl)
  walk-exists request (s ∷ snapshots) =
      let page = AreResults-exist is_match (request_at_size name s.page_size request)
      (matching_documents query s) in
      let rest =
      after-exists request snapshots (after_in name page.0)
      (walk-exists (request_after name (after_in name page.0) request) snapshots) in
      (page.0 ∷ rest.0, rest.1, (page.1, rest.2))

  -- over no snapshot there is no page
  pub walk-nothing : (request : Request B) (pages : List AggregationResults) (ended : Bool)
      → IsWalk is_match name query request [] pages ended → (pages ≡ []) × (ended ≡ false)
  walk-nothing request [] ended h = (refl, h)
  walk-nothing request (r ∷ pages) ended h = absurd h
