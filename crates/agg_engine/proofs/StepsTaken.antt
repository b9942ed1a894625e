-- How many steps a walk has taken so far.
use Rattle.std.proofs.Common.{◌≡◌, ◌≢◌, ◌≤◌, ◌+◌, ◌*◌, ℕ, suc, List, [], ◌∷◌, ◌++◌, Bool, true}
use Rattle.std.proofs.Common.{false, refl, sym, subst, ap, arith, append_assoc, append-nil, take}
use Rattle.std.proofs.lemmas.List.Sums.{sum_by-cons}
use Rattle.agg_segment.specs.storage.Document.{Fields}
use Rattle.agg_segment.specs.declared.query.QueryTree.{QueryTree}
use Rattle.agg_request_tree.specs.Request.{Request}
use Rattle.agg_request_tree.specs.declared.aggregation.CompositeAggregation.{CompositeAggregation}
use Rattle.agg_results.specs.declared.final_results.types.AggregationResults.{AggregationResults}
use Rattle.agg_request_tree.specs.ChangedRequest.{request_after}
use Rattle.agg_engine.specs.snapshot_results.Steps.{counted_of, past_named}
use Rattle.agg_segment.specs.SnapshotDocuments.{SnapshotDocuments}
use Rattle.agg_engine.specs.Steps.{TakesAtMost, counted_over, past_pages}
use Rattle.agg_engine.specs.Walk.{AreResultsAt, IsWalk, after_in, matching_documents}
use Rattle.agg_engine.proofs.PagedRequests.{after-own}
use Rattle.agg_engine.proofs.WalkLoop.{MayGoOn}
use Rattle.agg_engine.proofs.WalkState.{full}

module _ {B : Type 0} (is_match : B → Fields → Bool) (name : List ℕ) (query : QueryTree)
    (request : Request B) (snapshots : List SnapshotDocuments) where
  -- the walk has come over so many snapshots with these pages, and goes on with a request over the
  -- rest; the steps so far are at most and at least those of the snapshots and pages so far
  pub record IsCounting (now : Request B) (rest : List SnapshotDocuments)
      (pages : List AggregationResults) (done steps steps_now : ℕ) : Type 0 where
    pub reached : (k n : ℕ) → n ≡ done + k → (more : List AggregationResults) (ended : Bool)
        → IsWalk is_match name query now (take k rest) more ended
        → IsWalk is_match name query request (take n snapshots) (pages ++ more) ended
    pub most : (k n : ℕ) → n ≡ done + k
        → steps_now + 3 * counted_over is_match query request (take k rest)
        ≤ steps + 3 * counted_over is_match query request (take n snapshots)
    pub least : (more : List AggregationResults)
        → steps + past_pages name query request snapshots (pages ++ more)
        ≤ steps_now + past_pages name query now rest more

  -- before any snapshot
  pub takes-none : (steps : ℕ) → TakesAtMost is_match query name request snapshots steps steps
  takes-none steps = (0, ([], refl), omega arith)

  counting-none : (steps : ℕ) → IsCounting request snapshots [] 0 steps steps
  counting-none steps = record {
    reached = λ k n is more ended walk.
        subst (λ m. IsWalk is_match name query request (take m snapshots) more ended)
        (omega (arith, is)) walk;
    most = λ k n is.
        let same : n ≡ k = omega (arith, is) in
        subst (λ m. steps + 3 * counted_over is_match query request (take k snapshots)
        ≤ steps + 3 * counted_over is_match query request (take m snapshots)) (sym same)
        (omega arith);
    least = λ more. omega arith;
  }

  pub counting-start : (composite : CompositeAggregation)
      → MayGoOn name request composite composite.after → (steps : ℕ)
      → IsCounting (request_after name composite.after request) snapshots [] 0 steps steps
  counting-start composite may steps =
      subst (λ (now : Request B). IsCounting now snapshots [] 0 steps steps)
      (after-own name request composite may.names may.named) (counting-none steps)

  module _ (now : Request B) (rest : List SnapshotDocuments) (pages : List AggregationResults)
      (done steps steps_now : ℕ) (c : IsCounting now rest pages done steps steps_now) where
    -- the pages so far
    walk-so_far : IsWalk is_match name query request (take done snapshots) pages false
    walk-so_far =
        subst (λ rs. IsWalk is_match name query request (take done snapshots) rs false)
        (append-nil pages) (c.reached 0 done (omega arith) [] false refl)

    no_more : (left : List SnapshotDocuments) → past_pages name query now left [] ≡ 0
    no_more [] = refl
    no_more (s ∷ left) = refl

    -- so many steps are enough for the pages so far
    pub counting-least : steps + past_pages name query request snapshots pages ≤ steps_now
    counting-least =
        let all = c.least [] in
        let none = no_more rest in
        let same = ap (past_pages name query request snapshots) (append-nil pages) in
        omega arith

    -- no more steps are taken after them
    pub counting-most : TakesAtMost is_match query name request snapshots steps steps_now
    counting-most = (
      done,
      (pages, walk-so_far),
      let all = c.most 1 (done + 1) (omega arith) in
          omega arith,
    )

  -- at a snapshot, with as many steps more as it allows
  module _ (now : Request B) (s : SnapshotDocuments) (rest : List SnapshotDocuments)
      (pages : List AggregationResults) (done steps steps_now later : ℕ)
      (c : IsCounting now (s ∷ rest) pages done steps steps_now)
      (most : later ≤ steps_now + 3 * counted_of is_match request (matching_documents query s))
    where
      pub counting-here : TakesAtMost is_match query name request snapshots steps later
      counting-here = (
        done,
        (pages, walk-so_far now (s ∷ rest) pages done steps steps_now c),
        let all = c.most 1 (done + 1) (omega arith) in
            let one = sum_by-cons (λ t. counted_of is_match request (matching_documents query t))
            s [] in
            omega arith,
      )

      -- after its page, with as many steps as it has occurrences past its bound
      module _ (r : AggregationResults)
          (least : steps_now + past_named name now (matching_documents query s) ≤ later) where
        -- the last page
        pub counting-last
            : steps + past_pages name query request snapshots (pages ++ r ∷ []) ≤ later
        counting-last =
            let all = c.least (r ∷ []) in
            let none : past_pages name query (request_after name (after_in name r) now) rest []
            ≡ 0 =
            no_more now (s ∷ rest) pages done steps steps_now c rest in
            omega arith

        -- a full page
        pub counting-more : AreResultsAt is_match name query now s r → after_in name r ≢ []
            → IsCounting (request_after name (after_in name r) now) rest (pages ++ r ∷ [])
            (done + 1) steps later
        counting-more is some = record {
          reached = λ k n n_is more ended walk.
              rw (append_assoc pages (r ∷ []) more)
              (c.reached (suc k) n (omega (arith, n_is)) (r ∷ more) ended (
                is,
                full (after_in name r) ((more ≡ []) × (ended ≡ true))
                    (IsWalk is_match name query (request_after name (after_in name r) now)
                    (take k rest) more ended) some walk,
              ));
          most = λ k n n_is.
              let all = c.most (suc k) n (omega (arith, n_is)) in
              let one = sum_by-cons (λ t. counted_of is_match request (matching_documents query t))
              s (take k rest) in
              omega arith;
          least = λ more.
              let all = c.least (r ∷ more) in
              let same = ap (past_pages name query request snapshots)
              (append_assoc pages (r ∷ []) more) in
              omega arith;
        }
