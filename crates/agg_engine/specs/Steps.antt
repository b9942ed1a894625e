-- How many steps a walk takes.
use Rattle.std.specs.Prelude.{◌≤◌, ◌+◌, ◌*◌, ℕ, List, [], ◌∷◌, Bool, false, take}
use Rattle.std.specs.List.{sum_by}
use Rattle.agg_segment.specs.storage.Document.{Fields}
use Rattle.agg_segment.specs.declared.query.QueryTree.{QueryTree}
use Rattle.agg_request_tree.specs.Request.{Request}
use Rattle.agg_request_tree.specs.ChangedRequest.{request_after}
use Rattle.agg_engine.specs.snapshot_results.Steps.{counted_of, past_named}
use Rattle.agg_results.specs.declared.final_results.types.AggregationResults.{AggregationResults}
use Rattle.agg_segment.specs.SnapshotDocuments.{SnapshotDocuments}
use Rattle.agg_engine.specs.Walk.{IsWalk, after_in, matching_documents}

-- ---- the most

module _ {B : Type 0} (is_match : B → Fields → Bool) (query : QueryTree) where
  -- how many documents composites count in snapshots, of those that match
  abbrev pub counted_over : Request B → List SnapshotDocuments → ℕ
  counted_over request snapshots =
      sum_by (λ s. counted_of is_match request (matching_documents query s)) snapshots

  module _ (name : List ℕ) where
    -- the walk over so many snapshots has not ended, so that it reaches the next one, if any
    abbrev pub GoesOnAfter : Request B → List SnapshotDocuments → ℕ → Type 0
    GoesOnAfter request snapshots n =
        (pages : List AggregationResults)
        × IsWalk is_match name query request (take n snapshots) pages false

    -- there are at most three steps for each document that is counted in reached snapshots
    abbrev pub TakesAtMost : Request B → List SnapshotDocuments → ℕ → ℕ → Type 0
    TakesAtMost request snapshots steps steps_now =
        (n : ℕ) × GoesOnAfter request snapshots n
        × (steps_now ≤ steps + 3 * counted_over request (take (n + 1) snapshots))

-- ---- the least

module _ {B : Type 0} (name : List ℕ) (query : QueryTree) where
  -- how many occurrences of the composite of a name lie past the bound of each page, over all pages
  abbrev pub past_pages : Request B → List SnapshotDocuments → List AggregationResults → ℕ
  past_pages request snapshots [] = 0
  past_pages request [] (r ∷ rs) = 0
  past_pages request (s ∷ snapshots) (r ∷ rs) =
      past_named name request (matching_documents query s)
      + past_pages (request_after name (after_in name r) request) snapshots rs
