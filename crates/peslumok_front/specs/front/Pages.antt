-- The pages of groups.
use Rattle.std.specs.Prelude.{◌≡◌, ◌∷◌, ◌||◌, [], ℕ, List, Bool, true, false, MatchBool}
use Rattle.std.specs.Prelude.{codes, if◌then◌else◌, is_some, max, not}
use Rattle.agg_values.specs.Names.{Named}
use Rattle.agg_values.specs.declared.after_key.AfterKey.{AfterKey}
use Rattle.agg_segment.specs.storage.Document.{Fields}
use Rattle.agg_segment.specs.Query.{matches}
use Rattle.agg_segment.specs.SnapshotDocuments.{SnapshotDocuments}
use Rattle.agg_segment.specs.declared.query.QueryTree.{QueryTree}
use Rattle.agg_request_tree.specs.Request.{Request}
use Rattle.agg_results.specs.declared.final_results.types.AggregationResults.{AggregationResults}
use Rattle.agg_engine.specs.Walk.{IsWalk, after_in}
use Rattle.peslumok_front.specs.grouping.Request.{IsRequestOf}
use Rattle.peslumok_front.specs.declared.grouping.grouping.Grouping.{Grouping}
use Rattle.peslumok_front.specs.declared.grouping.request.AskedPage.{AskedPage}
use Rattle.peslumok_front.specs.declared.front.asked.Pages.{Pages}

-- how many groups a page has room for: at least 100,000 where those with the most documents are
-- looked for
abbrev pub room_of : Pages → ℕ
room_of pages = if is_some pages.top then max pages.size 100_000 else pages.size

-- ---- the last page

-- the key after which the next page begins: the one that a page shows of its groups
abbrev pub next_after : AggregationResults → Named AfterKey
next_after page = after_in (codes "groups") page

-- whether an after key has no key, so that no page comes after it
abbrev pub is_end : Named AfterKey → Bool
is_end [] = true
is_end (key ∷ keys) = false

-- whether no page is written after one that shows a key: none comes, or only one is asked for
abbrev pub is_last : Bool → Named AfterKey → Bool
is_last is_all shown = is_end shown || not is_all

-- the key that the last of pages shows
abbrev pub last_after : List AggregationResults → Named AfterKey
last_after [] = []
last_after (page ∷ []) = next_after page
last_after (page ∷ later ∷ pages) = last_after (later ∷ pages)

-- ---- pages

-- the walk of the request for a page over snapshots; the request has no filter but by a tree
pub record IsPageWalk (grouping : Grouping) (query : QueryTree) (snapshots : List SnapshotDocuments)
    (page : AskedPage) (results : List AggregationResults) (ended : Bool) : Type 0 where
  pub request : Request QueryTree
  pub asked : IsRequestOf grouping page request
  pub walked : IsWalk matches (codes "groups") query request snapshots results ended

-- the one snapshot of documents, whose pages have room for so many groups
abbrev pub snapshot_of : ℕ → List Fields → SnapshotDocuments
snapshot_of size documents = record { segments = documents ∷ []; page_size = size }

module _ (grouping : Grouping) (query : QueryTree) (documents : List Fields) where
  -- the results of a page: those of its walk over documents
  abbrev pub IsPageOf : AskedPage → AggregationResults → Type 0
  IsPageOf page results =
      (ended : Bool)
      × IsPageWalk grouping query (snapshot_of page.size documents ∷ []) page (results ∷ []) ended

  module _ (is_all : Bool) (size : ℕ) where
    -- the pages after a key: each next one begins after the key that the page before shows, up to
    -- the last one
    abbrev pub ArePages : Named AfterKey → List AggregationResults → Type 0
    ArePages after [] = ⊥
    ArePages after (results ∷ pages) =
        IsPageOf (record { size = size; after = after }) results
        × MatchBool (is_last is_all (next_after results)) (pages ≡ [])
        (ArePages (next_after results) pages)
