-- What a call for the results of a page answers.
use Rattle.std.proofs.Common.{◌≡◌, ◌≤◌, ◌⊎◌, ◌+◌, ◌*◌, ℕ, List, Bool, Option, Result, Ok, Err}
use Rattle.std.proofs.Common.{IfErr, IfOk, OnOk, map, refl, sym, subst, arith, inl, inr}
use Rattle.std.specs.List.{All, Any}
use Rattle.std.specs.Result.{IsErrAnd}
use Rattle.std.proofs.lemmas.Result.{err_from_is_err_and}
use Rattle.agg_values.specs.declared.request_error.AggregationError.TheVariants as aggregation
use Rattle.agg_cache.specs.Limits.{Limits}
use Rattle.agg_segment.specs.storage.Document.{Fields}
use Rattle.agg_segment.specs.Query.{matches}
use Rattle.agg_segment.specs.Segment.{Stored, documents_of}
use Rattle.agg_segment.specs.declared.query.QueryTree.{QueryTree}
use Rattle.agg_request_tree.specs.Ranges.{HasStartOutOfRange}
use Rattle.agg_request_tree.specs.Request.{Request, with_builders}
use Rattle.agg_request_tree.specs.Uncut.{CountsTooMany}
use Rattle.agg_results.specs.final_results.BucketCount.{results_buckets}
use Rattle.agg_results.specs.declared.final_results.types.AggregationResults.{AggregationResults}
use Rattle.agg_results.specs.intermediate_results.Final.{final_results}
use Rattle.agg_results.specs.intermediate_results.Intermediate.{Held}
use Rattle.agg_results.specs.intermediate_results.Refusals.{HaveTooMany}
use Rattle.agg_results.specs.declared.intermediate_results.results.IntermediateAggregationResults
    as held
use held.{IntermediateAggregationResults}
use Rattle.agg_results.specs.Results.{AreResults}
use Rattle.agg_results.specs.StandsFor.{StandsFor}
use Rattle.agg_engine_tree.specs.segment_context.Pages.{paged}
use Rattle.agg_engine_tree.specs.segment_context.Trees.{AreTreesOf}
use Rattle.agg_engine_tree.specs.declared.segment_context.params.Page.{Page}
use Rattle.agg_engine.specs.snapshot_results.Answers.{AnswersResults, IsRefusal}
use Rattle.agg_engine.specs.snapshot_results.Asked.{IsAsked}
use Rattle.agg_engine.specs.declared.snapshot_results.context.PageRequest.{PageRequest}
use Rattle.agg_engine.specs.declared.snapshot_results.error.SnapshotError.{SnapshotError}
use Rattle.agg_engine.specs.declared.snapshot_results.error.SnapshotError.TheVariants as snapshot
use Rattle.agg_engine.specs.snapshot_results.Documents.{matching_in}
use Rattle.agg_engine.specs.snapshot_results.MemoryLimits.{HaveRoom, TellsMemory}
use Rattle.agg_engine.specs.snapshot_results.Steps.{counted_of, past_named}
use Rattle.agg_engine.proofs.lemmas.collectors.BuiltPages.{built-paged}
use Rattle.agg_engine.specs.PageAnswers.{AnswersPage, IsFinalRefusal}
use Rattle.agg_engine.specs.Refusals.{RefusedAtMost}
use Rattle.agg_engine.specs.Walk.{matching_among}
use Rattle.agg_engine.specs.WalkError.{error_from_snapshot}
use Rattle.agg_engine.specs.declared.walk.error.WalkError.{WalkError}
use Rattle.agg_engine.specs.declared.walk.error.WalkError.TheVariants as error
use Rattle.agg_engine.proofs.BuiltCounts.{counted-built, past-built}
use Rattle.agg_engine.proofs.BuiltRoofs.{low_roof-built, roof-built}
use Rattle.agg_engine.proofs.MergedResults.{IsMergedOf, few-built, many-built, merged-built}
use Rattle.agg_engine.proofs.MergedResults.{none-built, range-built}
use Rattle.agg_engine.proofs.ReachedPage.{fit-here, results-here}
use Rattle.agg_engine.proofs.Snapshots.{matching_in-among}

-- the request that a page asks, with the tree of each builder in its place
pub asked-built : {B : Type 0} (page : PageRequest B) (made : B → QueryTree)
    → AreTreesOf made page.request.now page.params.now.trees
    → IsAsked page (with_builders made (paged page.params.now.page page.request.now))
asked-built page made trees = record {
  made = made;
  trees = trees;
  is = built-paged made page.params.now.page page.request.now;
}

module _ {B : Type 0} (is_match : B → Fields → Bool) (of : B → QueryTree)
    (built : (b : B) (d : Fields) → is_match b d ≡ matches (of b) d) (limits : Limits)
    (query : QueryTree) (request : Request B) (page : Option Page) (stored : List Stored) where
  -- the request with the page, and the built one
  abbrev now : Request B
  now = paged page request

  abbrev made : Request QueryTree
  made = with_builders of now

  -- what the segments stand for, and the documents that match
  abbrev segments : List (List Fields)
  segments = map documents_of stored

  abbrev documents : List Fields
  documents = matching_among query segments

  among : (P : List Fields → Type 0) → P (matching_in query stored) → P documents
  among P = subst P (matching_in-among query stored)

  -- merged results of the built request are those of the request
  pub merged-page : (merged : Held) → StandsFor matches made (matching_in query stored) merged
      → ¬ (HasStartOutOfRange made (matching_in query stored))
      → ¬ (CountsTooMany matches made (matching_in query stored))
      → IsMergedOf is_match now documents merged
  merged-page merged stand range few =
      among (λ ds. IsMergedOf is_match now ds merged)
      (merged-built is_match of built now (matching_in query stored) merged stand range few)

  -- each segment has room for its low roof
  room-page : HaveRoom matches query made limits segments
      → HaveRoom is_match query now limits segments
  room-page =
      subst (λ (low : List Fields → ℕ).
      All (λ ds. limits.in_use + low ds ≤ limits.memory_limit) segments)
      (low_roof-built is_match of built now query)

  -- a refusal of the snapshot has its cause
  cause-of : (given : SnapshotError) → IsRefusal made query stored limits given
      → (error_from_snapshot given ≡ error.OutOfMemory)
      ⊎ RefusedAtMost is_match limits query now segments (error_from_snapshot given)
  cause-of snapshot.BucketOutOfRange out =
      inr (among (HasStartOutOfRange now)
      (range-built is_match of built now (matching_in query stored) out))
  cause-of snapshot.TooMany many =
      inr (
        among (λ ds. ¬ (HasStartOutOfRange now ds))
            (none-built is_match of built now (matching_in query stored) many.0),
        among (CountsTooMany is_match now)
            (many-built is_match of built now (matching_in query stored) many.1),
      )
  cause-of (snapshot.MemoryExceeded told current) passed =
      inr (
        (
          among (λ ds. ¬ (HasStartOutOfRange now ds))
              (none-built is_match of built now (matching_in query stored) passed.0),
          among (λ ds. ¬ (CountsTooMany is_match now ds))
              (few-built is_match of built now (matching_in query stored) passed.1),
        ),
        subst (λ (bytes : List Fields → ℕ).
            Any (λ ds. TellsMemory limits.memory_limit (limits.in_use + bytes ds) 0 told current)
            segments) (roof-built is_match of built now query) passed.2,
      )
  cause-of snapshot.OutOfMemory none = inl refl

  module _ (steps steps_now : ℕ) where
    abbrev Answers : Result AggregationResults WalkError → Type 0
    Answers = AnswersPage is_match limits query now segments steps steps_now

    abbrev Given : Result IntermediateAggregationResults SnapshotError → Type 0
    Given = AnswersResults made (matching_in query stored) steps steps_now

    most-of : (given : Result IntermediateAggregationResults SnapshotError) → Given given
        → steps_now ≤ steps + 3 * counted_of is_match now documents
    most-of given answer =
        let most = among (λ ds. steps_now ≤ steps + 3 * counted_of matches made ds) answer.most in
        let same = counted-built is_match of built now documents in
        omega arith

    pub answers-refused : (given : SnapshotError)
        → IsRefusal made query stored limits given → Given (Err given)
        → (result : Result AggregationResults WalkError)
        → IsErrAnd result (λ e. e ≡ error_from_snapshot given) → Answers result
    answers-refused given refused answer result kept =
        let found = err_from_is_err_and result kept in
        subst Answers (sym found.1) (record {
          results = tt;
          fits = tt;
          buckets = tt;
          cause = subst
              (λ e. (e ≡ error.OutOfMemory) ⊎ RefusedAtMost is_match limits query now segments e)
              (sym found.2) (cause-of given refused);
          least = λ name. tt;
          most = most-of (Err given) answer;
        })

    -- merged results, and what is final of them
    module _ (merged : IntermediateAggregationResults)
        (h : IsMergedOf is_match now documents merged.results)
        (room : HaveRoom matches query made limits segments) (answer : Given (Ok merged)) where
      final-cause : (given : WalkError)
          → IsFinalRefusal limits.bucket_limit request merged.results given
          → (given ≡ error.OutOfMemory) ⊎ RefusedAtMost is_match limits query now segments given
      final-cause (error.Aggregation (aggregation.BucketLimitExceeded given n)) refused =
          let number = refused.1 in
          let more = refused.2 in
          inr (
            (h.range, h.few),
            room-page room,
            refused.0,
            omega arith,
            (
              final_results request merged.results,
              results-here is_match page request documents merged.results h,
              refused.1,
            ),
          )
      final-cause (error.Aggregation (aggregation.MemoryExceeded given n)) refused =
          absurd refused
      final-cause (error.Aggregation (aggregation.DateHistogramParseError part)) refused =
          absurd refused
      final-cause (error.Invalid fault) refused = absurd refused
      final-cause error.UnknownComposite refused = absurd refused
      final-cause error.QueryBuild refused = absurd refused
      final-cause error.BucketOutOfRange refused = absurd refused
      final-cause error.TooMany refused = absurd refused
      final-cause error.OutOfMemory refused = inl refl

      pub answers-final : (result : Result AggregationResults WalkError)
          → IfOk result (λ results. results ≡ final_results request merged.results)
          → OnOk result (¬ (HaveTooMany limits.bucket_limit request merged.results))
          → IfErr result (IsFinalRefusal limits.bucket_limit request merged.results)
          → Answers result
      answers-final (Ok results) is fit refused =
          let short : results_buckets (final_results request merged.results)
          ≤ limits.bucket_limit =
          (let few = fit in omega arith) in
          record {
            results = subst (AreResults is_match now documents) (sym is)
                (results-here is_match page request documents merged.results h);
            fits = fit-here is_match limits query page request segments merged.results h
                (room-page room) short;
            buckets = subst (λ (r : AggregationResults). results_buckets r ≤ limits.bucket_limit)
                (sym is) short;
            cause = tt;
            least = λ name.
                let least = among (λ ds. steps + past_named name made ds ≤ steps_now)
                (answer.least name) in
                let same = past-built of name now documents in
                omega arith;
            most = most-of (Ok merged) answer;
          }
      answers-final (Err given) is fit refused = record {
        results = tt;
        fits = tt;
        buckets = tt;
        cause = final-cause given refused;
        least = λ name. tt;
        most = most-of (Ok merged) answer;
      }
