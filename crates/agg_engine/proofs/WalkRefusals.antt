-- Why a walk is refused at a snapshot.
use Rattle.std.proofs.Common.{◌≡◌, ◌⊎◌, ℕ, List, ◌∷◌, Bool, Option, Result, Err, IfErr, inl, inr}
use Rattle.std.proofs.Common.{IsErrAnd, IsErrOf, sym, subst, ◌∙◌}
use Rattle.std.specs.Prelude.{⊤}
use Rattle.std.proofs.lemmas.Result.{err_from_is_err_and}
use Rattle.agg_values.specs.Names.{Named}
use Rattle.agg_values.specs.declared.after_key.AfterKey.{AfterKey}
use Rattle.agg_values.specs.declared.request_error.AggregationError.TheVariants as aggregation
use Rattle.agg_cache.specs.Limits.{Limits}
use Rattle.agg_segment.specs.storage.Document.{Fields}
use Rattle.agg_segment.specs.declared.query.QueryTree.{QueryTree}
use Rattle.agg_request_tree.specs.Matching.{built_matches}
use Rattle.agg_request_tree.specs.Request.{Request}
use Rattle.agg_request_tree.specs.declared.aggregation.CompositeAggregation.{CompositeAggregation}
use Rattle.agg_results.specs.declared.final_results.types.AggregationResults.{AggregationResults}
use Rattle.agg_request_tree.specs.ChangedRequest.{request_after}
use Rattle.agg_engine.specs.PageAnswers.{AnswersPage}
use Rattle.agg_engine.specs.Refusals.{RefusedAtMost, SnapshotRefusedAtMost, WalkFailsAtMost}
use Rattle.agg_engine.specs.Refusals.{WalkRefusedAtMost}
use Rattle.agg_segment.specs.SnapshotDocuments.{SnapshotDocuments}
use Rattle.agg_engine.specs.Walk.{MayBeAsked}
use Rattle.agg_engine.specs.declared.walk.error.WalkError.{WalkError}
use Rattle.agg_engine.specs.declared.walk.error.WalkError.TheVariants as error
use Rattle.agg_engine.proofs.WalkLoop.{IsWalking}
use Rattle.agg_engine.proofs.WalkPages.{AnswersAt}
use Rattle.agg_engine.proofs.WalkState.{state-refused}

-- an error that is handed on has the cause of the error that is given
pub caused-by : {T : Type 0} (P : WalkError → Type 0) (result : Result T WalkError)
    (given : WalkError) → IsErrAnd result (λ e. e ≡ given) → P given → IfErr result P
caused-by P result given kept cause =
    let found = err_from_is_err_and result kept in
    subst (λ r. IfErr r P) (sym found.1) (subst P (sym found.2) cause)

-- at a snapshot
module _ {B : Type 0} {query_for : B → Option QueryTree} {limits : Limits} {name : List ℕ}
    {query : QueryTree} {request : Request B} {snapshots : List SnapshotDocuments}
    {composite : CompositeAggregation} {after : Named AfterKey} {s : SnapshotDocuments}
    {rest : List SnapshotDocuments} {pages : List AggregationResults}
    (w : IsWalking (built_matches query_for) limits name query request snapshots composite after
    (s ∷ rest) pages) (asked : MayBeAsked query_for name request snapshots) where
  abbrev Refused : WalkError → Type 0
  Refused =
      SnapshotRefusedAtMost (built_matches query_for) limits name query
      (request_after name after request) s

  refused : (given : WalkError) → Refused given
      → MayBeAsked query_for name request snapshots
      × WalkRefusedAtMost (built_matches query_for) limits name query request snapshots given
  refused given is = (
    asked,
    state-refused (built_matches query_for) limits name query request snapshots
        (request_after name after request) s rest pages w.state given is,
  )

  -- what a call for its page answers has its cause in the walk
  cause-page : (given : WalkError) → (given ≡ error.OutOfMemory) ⊎ Refused given
      → WalkFailsAtMost query_for limits name query request snapshots given
  cause-page given (inr is) = by given is
    where
      by : (given : WalkError) → Refused given
          → WalkFailsAtMost query_for limits name query request snapshots given
      by error.OutOfMemory is = tt
      by error.BucketOutOfRange is = refused error.BucketOutOfRange is
      by error.TooMany is = refused error.TooMany is
      by (error.Aggregation (aggregation.BucketLimitExceeded l n)) is =
          refused (error.Aggregation (aggregation.BucketLimitExceeded l n)) is
      by (error.Aggregation (aggregation.MemoryExceeded l n)) is =
          refused (error.Aggregation (aggregation.MemoryExceeded l n)) is
      by (error.Aggregation (aggregation.DateHistogramParseError part)) is = absurd is
      by (error.Invalid fault) is = absurd is
      by error.UnknownComposite is = absurd is
      by error.QueryBuild is = absurd is
  cause-page given (inl is) =
      subst (WalkFailsAtMost query_for limits name query request snapshots) (sym is) tt

  pub cause-answer : {before later : ℕ} (given : WalkError)
      → AnswersAt (built_matches query_for) limits name query request after s before later
      (Err given)
      → WalkFailsAtMost query_for limits name query request snapshots given
  cause-answer given answer = cause-page given answer.cause

-- ---- what comes before any snapshot

-- an error that comes before any snapshot
abbrev pub IsFirst : WalkError → Type 0
IsFirst (error.Invalid fault) = ⊤
IsFirst error.UnknownComposite = ⊤
IsFirst error.QueryBuild = ⊤
IsFirst (error.Aggregation (aggregation.DateHistogramParseError part)) = ⊤
IsFirst _ = ⊥

module _ {B : Type 0} (is_match : B → Fields → Bool) (limits : Limits) (query : QueryTree)
    (request : Request B) (segments : List (List Fields)) where
  not-refused_first : (given : WalkError)
      → RefusedAtMost is_match limits query request segments given
      → ¬ (IsFirst given)
  not-refused_first (error.Invalid fault) refused first = refused
  not-refused_first error.UnknownComposite refused first = refused
  not-refused_first error.QueryBuild refused first = refused
  not-refused_first error.BucketOutOfRange refused first = first
  not-refused_first error.TooMany refused first = first
  not-refused_first (error.Aggregation (aggregation.DateHistogramParseError part)) refused first =
      refused
  not-refused_first (error.Aggregation (aggregation.MemoryExceeded l n)) refused first = first
  not-refused_first (error.Aggregation (aggregation.BucketLimitExceeded l n)) refused first = first
  not-refused_first error.OutOfMemory refused first = refused

  -- a call for a page answers none
  pub not-first : {T : Type 0} {before later : ℕ} (result : Result T WalkError)
      (given named : WalkError)
      → AnswersPage is_match limits query request segments before later (Err given)
      → IsErrAnd result (λ e. e ≡ given) → IsErrOf result named → ¬ (IsFirst named)
  not-first result given named answer kept is first =
      let found = err_from_is_err_and result kept in
      let same : named ≡ given = (let e = sym is ∙ found.1 in cc (e, found.2)) in
      elim answer.cause [
        | inl memory ↦ subst IsFirst (same ∙ memory) first
        | inr refused ↦ not-refused_first given refused (subst IsFirst same first)
      ]
