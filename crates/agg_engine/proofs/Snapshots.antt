-- Snapshots, as what they stand for.
use Rattle.std.proofs.Common.{◌≡◌, ◌≢◌, ◌==◌, ℕ, List, Option}
use Rattle.std.proofs.Common.{◌<◌, arith, true, false, get_or, length, map, eq-eqb}
use Rattle.std.proofs.Common.{sym, ap, subst, ◌∙◌}
use Rattle.std.specs.List.{Any, filter, list_any}
use Rattle.std.proofs.lemmas.Bool.Decides.{nat_tests}
use Rattle.std.proofs.lemmas.List.{get_or-map, length-map}
use Rattle.std.proofs.lemmas.List.Elements.{All-map}
use Rattle.std.proofs.lemmas.List.Folds.{Any-from_list_any, flat_map-map, list_any_at}
use Rattle.agg_segment.specs.storage.Document.{Fields}
use Rattle.agg_segment.specs.Query.{matches}
use Rattle.agg_segment.specs.Segment.{Stored, documents_of}
use Rattle.agg_segment.specs.declared.query.QueryTree.{QueryTree}
use Rattle.agg_request_tree.specs.Faults.{IsSoundRequest}
use Rattle.agg_request_tree.specs.Request.{Request}
use Rattle.agg_request_tree.specs.declared.aggregation.CompositeAggregation.{CompositeAggregation}
use Rattle.agg_request_tree.specs.BuiltRequest.{EachMakesTree}
use Rattle.agg_engine.specs.snapshot_results.Documents.{matching_in}
use Rattle.agg_engine.specs.NamedComposite.{IsCompositeNamed}
use Rattle.agg_segment.specs.Snapshot.{snapshot_documents, snapshots_documents}
use Rattle.agg_segment.specs.SnapshotDocuments.{SnapshotDocuments}
use Rattle.agg_engine.specs.Walk.{HaveRoom, MayBeAsked, matching_among}
use Rattle.agg_segment.specs.declared.snapshot.Snapshot.{Snapshot}

-- every page has room
HaveRoom-none : (snapshots : List Snapshot)
    → list_any (λ (s : Snapshot). s.page_size == 0) snapshots ≡ false
    → HaveRoom (snapshots_documents snapshots)
HaveRoom-none snapshots none =
    All-map (λ (s : SnapshotDocuments). s.page_size ≢ 0) snapshot_documents snapshots
    (λ i d within zero.
    let some = list_any_at (λ (s : Snapshot). s.page_size == 0) snapshots i d within
    (grind (arith, nat_tests, zero)) in
    cc (some, none))

module _ (snapshots items : List Snapshot) (same : items ≡ snapshots) where
  -- some page has no room
  pub no_room-some : list_any (λ (s : Snapshot). s.page_size == 0) items ≡ true
      → Any (λ (s : SnapshotDocuments). s.page_size ≡ 0) (snapshots_documents snapshots)
  no_room-some some =
      let found = Any-from_list_any (λ (s : Snapshot). s.page_size == 0) snapshots
      (ap (list_any (λ (s : Snapshot). s.page_size == 0)) (sym same) ∙ some) in (
        found.0,
        snapshot_documents found.1,
        rw (length-map snapshots snapshot_documents) found.2,
        get_or-map snapshot_documents snapshots found.0 found.1 (snapshot_documents found.1) found.2
            ∙ ap snapshot_documents found.3,
        grind (arith, nat_tests, found.4),
      )

  -- every page has room
  pub have_room : list_any (λ (s : Snapshot). s.page_size == 0) items ≡ false
      → HaveRoom (snapshots_documents snapshots)
  have_room none =
      HaveRoom-none snapshots
      (ap (list_any (λ (s : Snapshot). s.page_size == 0)) (sym same) ∙ none)

  -- a sound request with a name of its own, over pages that have room, whose builders make trees
  pub may_be_asked : {B : Type 0} (query_for : B → Option QueryTree) (name : List ℕ)
      (request : Request B) (composite : CompositeAggregation) → IsSoundRequest request
      → IsCompositeNamed name request composite
      → list_any (λ (s : Snapshot). s.page_size == 0) items ≡ false
      → EachMakesTree query_for request
      → MayBeAsked query_for name request (snapshots_documents snapshots)
  may_be_asked query_for name request composite sound named none each =
      record { sound = sound; room = have_room none; named = (composite, named); each = each }

-- the page of each snapshot has room
pub room-at : (snapshots items others : List Snapshot) → items ≡ snapshots → others ≡ snapshots
    → list_any (λ (s : Snapshot). s.page_size == 0) items ≡ false → (at : ℕ) (s : Snapshot)
    → at < length others → s ≡ get_or others at s → s.page_size ≢ 0
room-at snapshots items others same other none at s within item zero =
    let all : others ≡ items = other ∙ sym same in
    let is : s ≡ get_or items at s = item ∙ ap (λ (l : List Snapshot). get_or l at s) all in
    let empty = ap (λ (x : Snapshot). x.page_size) (sym is) ∙ zero in
    let some = list_any_at (λ (s : Snapshot). s.page_size == 0) items at s
    (subst (λ (l : List Snapshot). at < length l) all within)
    (eq-eqb (get_or items at s).page_size 0 empty) in
    cc (some, none)

-- the documents of segments that match, by what the segments stand for
pub matching_in-among : (query : QueryTree) (stored : List Stored)
    → matching_in query stored ≡ matching_among query (map documents_of stored)
matching_in-among query stored =
    ap (filter (matches query))
    (sym (flat_map-map (λ (documents : List Fields). documents) documents_of stored))
