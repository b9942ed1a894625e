-- The results of two lists of segments, merged, are those of both as one.
use Rattle.std.proofs.Common.{◌≡◌, ◌≤◌, ◌+◌, ◌*◌, ◌^◌, ◌++◌, ℕ, List, [], ◌∷◌, Result, Ok, Err}
use Rattle.std.proofs.Common.{IsErr, None, zero, suc, refl, subst, sym, arith}
use Rattle.std.proofs.Common.{drop, take}
use Rattle.std.specs.Prelude.{Contains}
use Rattle.std.specs.Map.{keys_of}
use Rattle.std.specs.List.{All}
use Rattle.std.proofs.lemmas.List.Elements.{All-append, All-filter, All-from_recursion}
use Rattle.std.proofs.lemmas.List.Elements.{All-nil}
use Rattle.agg_segment.specs.storage.Document.{Fields, HasNumbersOf64Bits}
use Rattle.agg_segment.specs.Query.{matches}
use Rattle.agg_segment.specs.Segment.{Stored, documents_of}
use Rattle.agg_segment.specs.declared.query.QueryTree.{QueryTree}
use Rattle.agg_request_tree.specs.Request.{Request}
use Rattle.agg_request_tree.specs.Uncut.{CountsTooMany}
use Rattle.agg_request_tree.specs.declared.aggregation.Aggregation.{Aggregation}
use Rattle.agg_values.specs.Names.{value_of}
use Rattle.agg_results.specs.declared.metric_results.error.MergeError.{MergeError}
use Rattle.agg_results.specs.declared.metric_results.error.MergeError.TheVariants as merge
use Rattle.agg_results.specs.intermediate_results.Merging.{AreMerged, CountsPass, ShapesDiffer}
use Rattle.agg_results.specs.intermediate_results.Merging.{SomeOfBoth}
use Rattle.agg_results.specs.declared.intermediate_results.results.IntermediateAggregationResults
    as held
use held.{IntermediateAggregationResults}
use Rattle.agg_request_tree.proofs.Lists.{AllByRecursion-always}
use Rattle.agg_results.specs.StandsFor.{StandsFor, StandsTo}
use Rattle.agg_results.proofs.AddedNumbers.{adds-small}
use Rattle.agg_results.proofs.PassingResults.{StandsFor-few}
use Rattle.agg_results.proofs.StandingResults.{StandsFor-alike, StandsFor-joined}
use Rattle.agg_engine.specs.snapshot_results.Answers.{AnswersResults}
use Rattle.agg_engine.specs.snapshot_results.Contexts.{AreContextsOf, MayBeCollected}
use Rattle.agg_engine.specs.snapshot_results.Documents.{matching_in}
use Rattle.agg_engine.specs.snapshot_results.Steps.{counted_of, past_named}
use Rattle.agg_engine.specs.declared.snapshot_results.context.SegmentContext.{SegmentContext}
use Rattle.agg_engine.specs.declared.snapshot_results.error.SnapshotError.{SnapshotError}
use Rattle.agg_engine.proofs.lemmas.snapshot_results.Contexts.{documents-back, documents-cut}
use Rattle.agg_engine.proofs.lemmas.snapshot_results.Contexts.{documents-front, few-cut}
use Rattle.agg_engine.proofs.lemmas.snapshot_results.Contexts.{matching-append, matching-one}
use Rattle.agg_engine.proofs.lemmas.snapshot_results.Contexts.{ready-back, ready-front}
use Rattle.agg_engine.proofs.lemmas.snapshot_results.JoinedCounts.{counted-append, past-append}
use Rattle.agg_engine.proofs.lemmas.snapshot_results.JoinedCounts.{past-none}
use Rattle.agg_engine.proofs.lemmas.snapshot_results.PartCounts.{as_many-fewer}

-- ---- two lists of documents

-- an error after some steps
pub answers-failed : (request : Request QueryTree) (documents : List Fields)
    (steps steps_now : ℕ) (result : Result IntermediateAggregationResults SnapshotError)
    → steps_now ≤ steps + 3 * counted_of matches request documents → IsErr result
    → AnswersResults request documents steps steps_now result
answers-failed request documents steps steps_now (Ok results) most failed =
    absurd (cc failed)
answers-failed request documents steps steps_now (Err error) most failed =
    record { stands = tt; least = λ name. tt; most = most }

module _ (request : Request QueryTree) (documents others : List Fields)
    (steps between steps_now : ℕ) (merged more : IntermediateAggregationResults)
    (a : AnswersResults request documents steps between (Ok merged))
    (b : AnswersResults request others between steps_now (Ok more)) where
  -- their shapes never differ
  halves-alike : ¬ (SomeOfBoth ShapesDiffer merged.results more.results)
  halves-alike =
      StandsFor-alike matches request documents others merged.results more.results a.stands
      b.stands

  -- no count or sum passes, since few documents are counted
  halves-few : All HasNumbersOf64Bits (documents ++ others)
      → ¬ (CountsTooMany matches request (documents ++ others))
      → ¬ (SomeOfBoth CountsPass merged.results more.results)
  halves-few numbers few pass =
      few (as_many-fewer matches (2 ^ 32) (2 ^ 62) request (documents ++ others) (omega arith)
      (StandsFor-few matches request documents others merged.results more.results
      (adds-small request (documents ++ others) numbers) a.stands b.stands pass))

  -- merged, they are the results of all documents
  halves-joined : (whole : IntermediateAggregationResults)
      → AreMerged merged.results more.results whole.results
      → AnswersResults request (documents ++ others) steps steps_now (Ok whole)
  halves-joined whole are = record {
    stands = StandsFor-joined matches request documents others merged.results more.results
        a.stands b.stands whole.results are;
    least = λ name.
        let first : steps + past_named name request documents ≤ between = a.least name in
        let second : between + past_named name request others ≤ steps_now = b.least name in
        let past = past-append name request documents others in
        omega arith;
    most = let first = a.most in
        let second = b.most in
        let counts = counted-append matches request documents others in
        omega arith;
  }

-- ---- two lists of segments

-- the numbers of documents in segments are of 64 bits
numbers-in : (request : Request QueryTree) (query : QueryTree) (segments : List Stored)
    (contexts : List SegmentContext) → AreContextsOf request query segments contexts
    → All HasNumbersOf64Bits (matching_in query segments)
numbers-in request query [] [] are = All-nil HasNumbersOf64Bits
numbers-in request query [] (c ∷ contexts) are = absurd are
numbers-in request query (s ∷ segments) [] are = absurd are
numbers-in request query (s ∷ segments) (c ∷ contexts) are =
    subst (All HasNumbersOf64Bits) (sym (matching-append query (s ∷ []) segments))
    (All-append HasNumbersOf64Bits (matching_in query (s ∷ [])) (matching_in query segments)
    (subst (All HasNumbersOf64Bits) (sym (matching-one query s))
    (All-filter (matches query) HasNumbersOf64Bits (documents_of s) are.0.numbers))
    (numbers-in request query segments contexts are.1))

-- what a call for the merged results of contexts answers, of whichever segments they are
abbrev pub AnswersContexts : List SegmentContext → ℕ → ℕ
    → Result IntermediateAggregationResults SnapshotError → Type 0
AnswersContexts contexts steps steps_now result =
    (request : Request QueryTree) (query : QueryTree) (segments : List Stored)
    → MayBeCollected request query segments contexts
    → AnswersResults request (matching_in query segments) steps steps_now result

module _ (contexts first second : List SegmentContext) (half : ℕ)
    (front : first ≡ take half contexts) (back : second ≡ drop half contexts)
    (request : Request QueryTree) (query : QueryTree) (segments : List Stored)
    (ready : MayBeCollected request query segments contexts)
    (steps between : ℕ) (result : Result IntermediateAggregationResults SnapshotError)
    (a : AnswersContexts first steps between result) where
  -- what the call for the first part answers
  first-answers : AnswersResults request
      (documents-front request query segments contexts half ready)
      steps between result
  first-answers =
      a request query (take half segments)
      (ready-front request query segments contexts half ready first front)

  -- how many documents composites count in both
  counts : counted_of matches request (matching_in query segments)
      ≡ counted_of matches request (documents-front request query segments contexts half ready)
      + counted_of matches request (documents-back request query segments contexts half ready)
  counts =
      let cut = documents-cut request query segments contexts half ready in
      subst (λ ds. counted_of matches request ds
      ≡ counted_of matches request (documents-front request query segments contexts half ready)
      + counted_of matches request (documents-back request query segments contexts half ready))
      (sym cut)
      (counted-append matches request
      (documents-front request query segments contexts half ready)
      (documents-back request query segments contexts half ready))

  -- its steps are at most three for each document that is counted in all segments
  pub first-most : between ≤ steps + 3 * counted_of matches request (matching_in query segments)
  first-most = let most = first-answers.most in let sum = counts in omega arith

  module _ (steps_now : ℕ) (other : Result IntermediateAggregationResults SnapshotError)
      (b : AnswersContexts second between steps_now other) where
    -- what the call for the second part answers
    second-answers : AnswersResults request
        (documents-back request query segments contexts half ready) between steps_now other
    second-answers =
        b request query (drop half segments)
        (ready-back request query segments contexts half ready second back)

    -- the steps of both parts are at most three for each counted document
    pub both-most : steps_now ≤ steps + 3 * counted_of matches request (matching_in query segments)
    both-most =
        let first = first-answers.most in
        let second = second-answers.most in
        let sum = counts in
        omega arith

-- where both are Ok
module _ (contexts first second : List SegmentContext) (half : ℕ)
    (front : first ≡ take half contexts) (back : second ≡ drop half contexts)
    (request : Request QueryTree) (query : QueryTree) (segments : List Stored)
    (ready : MayBeCollected request query segments contexts)
    (steps between steps_now : ℕ) (merged more : IntermediateAggregationResults)
    (a : AnswersContexts first steps between (Ok merged))
    (b : AnswersContexts second between steps_now (Ok more)) where
  own : AnswersResults request (documents-front request query segments contexts half ready)
      steps between (Ok merged)
  own =
      first-answers contexts first second half front back request query segments ready steps
      between (Ok merged) a

  rest : AnswersResults request (documents-back request query segments contexts half ready)
      between steps_now (Ok more)
  rest =
      second-answers contexts first second half front back request query segments ready steps
      between (Ok merged) a steps_now (Ok more) b

  -- their shapes never differ
  both-alike : ¬ (SomeOfBoth ShapesDiffer merged.results more.results)
  both-alike =
      halves-alike request (documents-front request query segments contexts half ready)
      (documents-back request query segments contexts half ready) steps between steps_now merged
      more own rest

  -- no count or sum passes
  both-few : ¬ (SomeOfBoth CountsPass merged.results more.results)
  both-few =
      halves-few request (documents-front request query segments contexts half ready)
      (documents-back request query segments contexts half ready) steps between steps_now merged
      more own rest
      (subst (All HasNumbersOf64Bits) (documents-cut request query segments contexts half ready)
      (numbers-in request query segments contexts ready.each))
      (few-cut request query segments contexts half ready)

  -- so only memory may run out in a merge
  pub both-memory : (error : MergeError)
      → (error ≡ merge.Mismatch → SomeOfBoth ShapesDiffer merged.results more.results)
      → (error ≡ merge.TooMany → SomeOfBoth CountsPass merged.results more.results)
      → error ≡ merge.OutOfMemory
  both-memory merge.Mismatch differ pass = absurd (both-alike (differ refl))
  both-memory merge.TooMany differ pass = absurd (both-few (pass refl))
  both-memory merge.OutOfMemory differ pass = refl

  -- merged, they are the results of all segments
  pub both-joined : (whole : IntermediateAggregationResults)
      → AreMerged merged.results more.results whole.results
      → AnswersResults request (matching_in query segments) steps steps_now (Ok whole)
  both-joined whole are =
      subst (λ ds. AnswersResults request ds steps steps_now (Ok whole))
      (sym (documents-cut request query segments contexts half ready))
      (halves-joined request (documents-front request query segments contexts half ready)
      (documents-back request query segments contexts half ready) steps between steps_now merged
      more own rest whole are)

-- ---- no segment

-- no results stand for no documents
nothing-stands : (depth : ℕ) (a : Aggregation QueryTree) → StandsTo matches depth a [] None
nothing-stands zero a = tt
nothing-stands (suc depth) a = refl

pub answers-none : (request : Request QueryTree) (steps : ℕ)
    (made : IntermediateAggregationResults) → made.results ≡ []
    → AnswersResults request [] steps steps (Ok made)
answers-none request steps made is = record {
  stands = subst (StandsFor matches request []) (sym is) (λ depth. record {
    each = All-from_recursion (λ (a : List ℕ × Aggregation QueryTree).
        StandsTo matches depth a.1 [] (value_of a.0 [])) request
        (AllByRecursion-always (λ (a : List ℕ × Aggregation QueryTree).
        StandsTo matches depth a.1 [] (value_of a.0 [])) (λ a. nothing-stands depth a.1) request);
    known = All-nil (Contains (keys_of request));
  });
  least = λ name. let none = past-none name request in omega arith;
  most = omega arith;
}
