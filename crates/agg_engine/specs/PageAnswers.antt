-- What calls answer of a page.
use Rattle.std.specs.Prelude.{◌≡◌, ◌≢◌, ◌≤◌, ◌⊎◌, ◌+◌, ◌*◌, ℕ, List, [], Bool, Option, Result}
use Rattle.std.specs.Prelude.{All, IfErr, IfOk, MatchOption, OnOk, ⊤}
use Rattle.agg_values.specs.Names.{Named}
use Rattle.agg_values.specs.Nothing.{NoneIs}
use Rattle.agg_values.specs.declared.after_key.AfterKey.{AfterKey}
use Rattle.agg_cache.specs.Limits.{Limits}
use Rattle.agg_segment.specs.storage.Document.{Fields}
use Rattle.agg_segment.specs.declared.query.QueryTree.{QueryTree}
use Rattle.agg_request_tree.specs.Faults.{IsSoundSource}
use Rattle.agg_request_tree.specs.Matching.{built_matches}
use Rattle.agg_request_tree.specs.Request.{Request}
use Rattle.agg_request_tree.specs.Source.{Sources, after_of}
use Rattle.agg_results.specs.final_results.BucketCount.{results_buckets}
use Rattle.agg_results.specs.declared.final_results.types.AggregationResults.{AggregationResults}
use Rattle.agg_results.specs.intermediate_results.Intermediate.{Held}
use Rattle.agg_results.specs.intermediate_results.Refusals.{TellsTooMany}
use Rattle.agg_results.specs.Results.{AreResults}
use Rattle.agg_engine_tree.specs.segment_context.Pages.{paged}
use Rattle.agg_engine_tree.specs.segment_context.Trees.{AreTreesOf}
use Rattle.agg_request_tree.specs.BuiltRequest.{built_tree}
use Rattle.agg_engine.specs.declared.snapshot_results.context.PageRequest.{PageRequest}
use Rattle.agg_engine.specs.snapshot_results.Steps.{counted_of, past_named}
use Rattle.agg_engine.specs.Refusals.{RefusedAtLeast, RefusedAtMost}
use Rattle.agg_engine.specs.Walk.{matching_among}
use Rattle.agg_engine.specs.declared.walk.error.WalkError.{WalkError}
use Rattle.agg_engine.specs.declared.walk.error.WalkError.TheVariants.{Aggregation, OutOfMemory}

-- each source may go on from its value in an after key
abbrev pub MayGoOnFrom : Sources → Named AfterKey → Type 0
MayGoOnFrom sources after = All (λ source. IsSoundSource source (after_of after source)) sources

-- what a call for the results of a request over segments answers: an Ok has them, they don't have
-- to be refused, and there is a step or more for each occurrence past the bound of a composite at
-- the top; an error has its cause, or memory ran out; whatever is answered, there are at most three
-- steps for each document that composites count
pub record AnswersPage {B : Type 0} (is_match : B → Fields → Bool) (limits : Limits)
    (query : QueryTree) (request : Request B) (segments : List (List Fields))
    (steps steps_now : ℕ) (result : Result AggregationResults WalkError) : Type 0 where
  pub results : IfOk result (AreResults is_match request (matching_among query segments))
  pub fits : OnOk result (NoneIs (RefusedAtLeast is_match limits query request segments))
  pub buckets : IfOk result (λ results. results_buckets results ≤ limits.bucket_limit)
  pub cause : IfErr result (λ error.
      (error ≡ OutOfMemory) ⊎ RefusedAtMost is_match limits query request segments error)
  pub least : (name : List ℕ)
      → OnOk result
      (steps + past_named name request (matching_among query segments) ≤ steps_now)
  pub most : steps_now ≤ steps + 3 * counted_of is_match request (matching_among query segments)

-- what a call for a page that is asked answers, whatever queries its builders made
abbrev pub AnswersAsked : {B : Type 0} → PageRequest B → Limits → List (List Fields) → ℕ → ℕ
    → Result AggregationResults WalkError → Type 0
AnswersAsked {B = B} page limits segments steps steps_now result =
    (query_for : B → Option QueryTree)
    → AreTreesOf (built_tree query_for) page.request.now page.params.now.trees
    → AnswersPage (built_matches query_for) limits page.query.now
    (paged page.params.now.page page.request.now) segments steps steps_now result

-- whether there is a next after key, and that it is the one that is shown
abbrev pub IsShown : Option (Named AfterKey) → Named AfterKey → Type 0
IsShown next shown = MatchOption next (shown ≡ []) (λ after. (after ≡ shown) × (after ≢ []))

-- why merged results have no final ones: these have more buckets than the limit; running out of
-- memory needs no cause
abbrev pub IsFinalRefusal : {B : Type 0} → ℕ → Request B → Held → WalkError → Type 0
IsFinalRefusal limit request merged (Aggregation given) = TellsTooMany limit request merged given
IsFinalRefusal limit request merged OutOfMemory = ⊤
IsFinalRefusal limit request merged _ = ⊥
