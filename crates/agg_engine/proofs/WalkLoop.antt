-- The loop over the snapshots: its start, its turns and its end.
use Rattle.std.proofs.Common.{◌≡◌, ◌≢◌, ◌≤◌, ◌<◌, ℕ, List, [], ◌∷◌, Bool, false, ◌+◌, get_or}
use Rattle.std.proofs.Common.{Option, Some, length, drop, sym, ap, ◌∙◌, subst}
use Rattle.std.specs.List.Sorted.{IsStrictlySortedBy}
use Rattle.std.specs.Map.{keys_of}
use Rattle.std.proofs.lemmas.List.{drop_more, drop_all}
use Rattle.agg_values.specs.Names.{Named, name_cmp}
use Rattle.agg_values.specs.Nothing.{NoneIs}
use Rattle.agg_values.specs.declared.after_key.AfterKey.{AfterKey}
use Rattle.agg_cache.specs.Limits.{Limits}
use Rattle.agg_segment.specs.storage.Document.{Fields}
use Rattle.agg_segment.specs.declared.query.QueryTree.{QueryTree}
use Rattle.agg_request_tree.specs.Faults.{IsSoundRequest}
use Rattle.agg_request_tree.specs.Names.{NamesAscend}
use Rattle.agg_request_tree.specs.Request.{Request}
use Rattle.agg_request_tree.specs.declared.aggregation.CompositeAggregation.{CompositeAggregation}
use Rattle.agg_request_tree.proofs.Faults.{IsSound-sources}
use Rattle.agg_results.specs.declared.final_results.types.AggregationResults.{AggregationResults}
use Rattle.agg_engine_tree.specs.segment_context.Pages.{paged}
use Rattle.agg_request_tree.specs.ChangedRequest.{request_after}
use Rattle.agg_engine_tree.specs.declared.segment_context.params.Page.{Page}
use Rattle.agg_engine.specs.NamedComposite.{IsCompositeNamed}
use Rattle.agg_engine.specs.PageAnswers.{MayGoOnFrom}
use Rattle.agg_engine.specs.Refusals.{WalkRefusedAtLeast}
use Rattle.agg_segment.specs.Snapshot.{snapshot_documents, snapshots_documents}
use Rattle.agg_segment.specs.SnapshotDocuments.{SnapshotDocuments}
use Rattle.agg_engine.specs.Walk.{IsWalk}
use Rattle.agg_segment.specs.declared.snapshot.Snapshot.{Snapshot}
use Rattle.agg_engine.proofs.NamedPlaces.{sound-named}
use Rattle.agg_engine.proofs.PagedRequests.{after-own, here-sound}
use Rattle.agg_engine.proofs.WalkState.{WalkState, state-out, state-start}

-- the request is sound, its names ascend, and the composite of a name goes on from an after key
pub record MayGoOn {B : Type 0} (name : List ℕ) (request : Request B)
    (composite : CompositeAggregation) (after : Named AfterKey) : Type 0 where
  pub names : IsStrictlySortedBy name_cmp (keys_of request)
  pub named : IsCompositeNamed name request composite
  pub sound : IsSoundRequest request
  pub goes_on : MayGoOnFrom composite.sources after

-- the walk has come so far, and may go on from the after key
pub record IsWalking {B : Type 0} (is_match : B → Fields → Bool) (limits : Limits) (name : List ℕ)
    (query : QueryTree) (request : Request B) (snapshots : List SnapshotDocuments)
    (composite : CompositeAggregation) (after : Named AfterKey) (rest : List SnapshotDocuments)
    (pages : List AggregationResults) : Type 0 where
  pub may : MayGoOn name request composite after
  pub state : WalkState is_match limits name query request snapshots
      (request_after name after request) rest pages

-- before the first snapshot
pub may-start : {B : Type 0} (name : List ℕ) (request : Request B)
    (composite : CompositeAggregation)
    → IsCompositeNamed name request composite → IsSoundRequest request → NamesAscend request
    → MayGoOn name request composite composite.after
may-start name request composite named sound ascend = record {
  names = (ascend 1).0;
  named = named;
  sound = sound;
  goes_on = IsSound-sources composite (sound-named name composite request named sound);
}

pub walking-start : {B : Type 0} (is_match : B → Fields → Bool) (limits : Limits) (name : List ℕ)
    (query : QueryTree) (request : Request B) (snapshots : List SnapshotDocuments)
    (composite : CompositeAggregation) → MayGoOn name request composite composite.after
    → IsWalking is_match limits name query request snapshots composite composite.after snapshots []
walking-start {B = B} is_match limits name query request snapshots composite may = record {
  may = may;
  state = subst (λ (now : Request B).
      WalkState is_match limits name query request snapshots now snapshots [])
      (after-own name request composite may.names may.named)
      (state-start is_match limits name query request snapshots);
}

-- the request of a page may be asked
pub page-sound : {B : Type 0} (name : List ℕ) (request : Request B)
    (composite : CompositeAggregation) (size : ℕ) (after : Named AfterKey) (page : Option Page)
    → MayGoOn name request composite after → size ≢ 0
    → page ≡ Some (record { name = name; size = size; after = after })
    → IsSoundRequest (paged page request)
page-sound name request composite size after page may room is =
    subst (λ (p : Option Page). IsSoundRequest (paged p request)) (sym is)
    (here-sound name request composite may.names may.named size after may.sound room may.goes_on)

-- after the last snapshot
module _ {B : Type 0} {is_match : B → Fields → Bool} {limits : Limits} {name : List ℕ}
    {query : QueryTree} {request : Request B} {snapshots : List SnapshotDocuments}
    {composite : CompositeAggregation} {after : Named AfterKey} {pages : List AggregationResults}
    (w : IsWalking is_match limits name query request snapshots composite after [] pages) where
  pub walking-out : IsWalk is_match name query request snapshots pages false
  walking-out =
      state-out is_match limits name query request snapshots (request_after name after request)
      pages w.state

  pub walking-out-fits : NoneIs (WalkRefusedAtLeast is_match limits name query request snapshots)
  walking-out-fits error refused = w.state.fits error refused

-- ---- the places of the list of snapshots

module _ (P : List SnapshotDocuments → Type 0) (snapshots items : List Snapshot) (at : ℕ)
    (left : P (snapshots_documents (drop at snapshots))) (same : items ≡ snapshots) where
  -- what holds of the snapshots that are left, at a snapshot of the list
  pub left-at : (s : Snapshot) → at < length items → s ≡ get_or items at s
      → P (snapshot_documents s ∷ snapshots_documents (drop (at + 1) snapshots))
  left-at s within item =
      let cut : drop at snapshots ≡ s ∷ drop (at + 1) snapshots =
      drop_more snapshots at s (subst (λ (l : List Snapshot). at < length l) same within)
      ∙ ap (λ x. x ∷ drop (at + 1) snapshots) (ap (λ l. get_or l at s) (sym same) ∙ sym item) in
      subst (λ (rest : List Snapshot). P (snapshots_documents rest)) cut left

  -- what holds of the snapshots that are left, after the last one
  pub left-end : length items ≤ at → P []
  left-end past =
      subst (λ (rest : List Snapshot). P (snapshots_documents rest))
      (drop_all at snapshots (subst (λ (l : List Snapshot). length l ≤ at) same past)) left

-- a walk over a list of snapshots comes to its end
pub walking-end : {B : Type 0} {is_match : B → Fields → Bool} {limits : Limits} {name : List ℕ}
    {query : QueryTree} {request : Request B} {all : List SnapshotDocuments}
    {composite : CompositeAggregation} {after : Named AfterKey} {pages : List AggregationResults}
    (snapshots items : List Snapshot) (at : ℕ)
    → IsWalking is_match limits name query request all composite after
    (snapshots_documents (drop at snapshots)) pages
    → items ≡ snapshots → length items ≤ at
    → IsWalking is_match limits name query request all composite after [] pages
walking-end {is_match = is_match} {limits = limits} {name = name} {query = query}
    {request = request} {all = all} {composite = composite} {after = after} {pages = pages}
    snapshots items at walking same past =
    left-end (λ rest. IsWalking is_match limits name query request all composite after rest pages)
    snapshots items at walking same past
