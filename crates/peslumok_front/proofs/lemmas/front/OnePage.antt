-- The walk over one snapshot has one page.
use Rattle.std.proofs.Common.{◌≡◌, ◌∙◌, ℕ, List, [], ◌∷◌, Bool, arith, filter, length}
use Rattle.std.proofs.Common.{append-nil, get_or, refl, subst, sym, ap, true}
use Rattle.std.specs.Prelude.{codes}
use Rattle.agg_values.specs.Names.{Named}
use Rattle.agg_values.specs.declared.after_key.AfterKey.{AfterKey}
use Rattle.agg_segment.specs.storage.Document.{Fields}
use Rattle.agg_segment.specs.Query.{matches}
use Rattle.agg_segment.specs.Snapshot.{snapshots_documents}
use Rattle.agg_segment.specs.SnapshotDocuments.{SnapshotDocuments}
use Rattle.agg_segment.specs.declared.query.QueryTree.{QueryTree}
use Rattle.agg_segment.specs.declared.snapshot.Snapshot.{Snapshot}
use Rattle.agg_request_tree.specs.ChangedRequest.{request_after, request_at_size}
use Rattle.agg_request_tree.specs.Request.{Request}
use Rattle.agg_results.specs.declared.final_results.types.AggregationResults.{AggregationResults}
use Rattle.agg_results.specs.Results.{AreResults}
use Rattle.agg_engine.specs.Walk.{IfFull, IsWalk, after_in, documents_in}
use Rattle.peslumok_front.specs.declared.grouping.grouping.Grouping.{Grouping}
use Rattle.peslumok_front.specs.declared.grouping.request.AskedPage.{AskedPage}
use Rattle.peslumok_records.specs.record_index.Index.{AreOneOf}
use Rattle.peslumok_front.specs.front.Pages.{IsPageOf, IsPageWalk, snapshot_of}

-- no page stands after that of the last snapshot
no-more : (request : Request QueryTree) (query : QueryTree) (after : Named AfterKey)
    (rs : List AggregationResults) (P : Type 0) (ended : Bool)
    → IfFull after ((rs ≡ []) × P) (IsWalk matches (codes "groups") query request [] rs ended)
    → rs ≡ []
no-more request query [] rs P ended is = is.0
no-more request query (key ∷ after) [] P ended is = refl
no-more request query (key ∷ after) (r ∷ rs) P ended is = absurd is

one-walked : (request : Request QueryTree) (query : QueryTree) (snapshots : List SnapshotDocuments)
    (pages : List AggregationResults) (ended : Bool) → length snapshots ≡ 1
    → IsWalk matches (codes "groups") query request snapshots pages ended → length pages ≡ 1
one-walked request query [] pages ended one walk = absurd (omega (arith, one))
one-walked request query (s ∷ []) [] ended one walk = absurd walk
one-walked request query (s ∷ []) (r ∷ rs) ended one walk =
    let after = after_in (codes "groups") r in
    let none = no-more (request_after (codes "groups") after request) query after rs
    (ended ≡ true) ended walk.1 in
    omega (arith, ap length none)
one-walked request query (s ∷ t ∷ snapshots) pages ended one walk = absurd (omega (arith, one))

-- the walk over one snapshot has one page
pub one-page : (grouping : Grouping) (query : QueryTree) (snapshots : List Snapshot)
    (page : AskedPage)
    (pages : List AggregationResults) (ended : Bool) → length snapshots ≡ 1
    → IsPageWalk grouping query (snapshots_documents snapshots) page pages ended
    → length pages ≡ 1
one-page grouping query snapshots page pages ended one walk =
    one-walked walk.request query (snapshots_documents snapshots) pages ended
    (same-length snapshots ∙ one) walk.walked
  where
    same-length : (xs : List Snapshot) → length (snapshots_documents xs) ≡ length xs
    same-length [] = refl
    same-length (x ∷ xs) = omega (arith, same-length xs)

-- the walk is the same over another snapshot of the same documents
same-walk : (request : Request QueryTree) (query : QueryTree) (s t : SnapshotDocuments)
    (pages : List AggregationResults) (ended : Bool) → s.page_size ≡ t.page_size
    → documents_in s ≡ documents_in t
    → IsWalk matches (codes "groups") query request (s ∷ []) pages ended
    → IsWalk matches (codes "groups") query request (t ∷ []) pages ended
same-walk request query s t [] ended sized same walk = walk
same-walk request query s t (r ∷ rs) ended sized same walk = (
  subst (λ size. AreResults matches (request_at_size (codes "groups") size request)
      (filter (matches query) (documents_in t)) r) sized
      (subst (λ documents. AreResults matches
      (request_at_size (codes "groups") s.page_size request)
      (filter (matches query) documents) r) same walk.0),
  walk.1,
)

only-one : (pages : List AggregationResults) (results : AggregationResults) → length pages ≡ 1
    → results ≡ get_or pages 0 results → pages ≡ results ∷ []
only-one [] results one is = absurd (omega (arith, one))
only-one (r ∷ []) results one is = ap (λ page. page ∷ []) (sym is)
only-one (r ∷ s ∷ pages) results one is = absurd (omega (arith, one))

-- the page of a walk over the one snapshot of documents is that of documents
pub page-over : (grouping : Grouping) (query : QueryTree) (snapshots : List SnapshotDocuments)
    (page : AskedPage) (pages : List AggregationResults) (results : AggregationResults)
    (ended : Bool)
    (documents : List Fields)
    → IsPageWalk grouping query snapshots page pages ended → length pages ≡ 1
    → results ≡ get_or pages 0 results → AreOneOf documents page.size snapshots
    → IsPageOf grouping query documents page results
page-over grouping query snapshots page pages results ended documents walk one is of = (
  ended,
  record {
    request = walk.request;
    asked = walk.asked;
    walked = same-walk walk.request query of.only (snapshot_of page.size documents)
        (results ∷ []) ended of.sized (of.joined ∙ sym (append-nil documents))
        (subst (λ ps. IsWalk matches (codes "groups") query walk.request (of.only ∷ []) ps
        ended)
        (only-one pages results one is)
        (subst (λ ss. IsWalk matches (codes "groups") query walk.request ss pages ended)
        of.alone walk.walked));
  },
)

-- the page that is made in a room is that of the same room
pub page-at : (grouping : Grouping) (query : QueryTree) (snapshots : List SnapshotDocuments)
    (made room : ℕ) (after : Named AfterKey) (results : AggregationResults)
    (documents : List Fields) → made ≡ room
    → ((ds : List Fields) → AreOneOf ds made snapshots
    → IsPageOf grouping query ds (record { size = made; after = after }) results)
    → AreOneOf documents room snapshots
    → IsPageOf grouping query documents (record { size = room; after = after }) results
page-at grouping query snapshots made room after results documents is page are =
    subst (λ (size : ℕ).
    IsPageOf grouping query documents (record { size = size; after = after }) results) is
    (page documents (subst (λ (size : ℕ). AreOneOf documents size snapshots) (sym is) are))
