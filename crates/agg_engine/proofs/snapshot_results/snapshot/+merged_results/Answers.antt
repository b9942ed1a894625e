use Rattle.std.proofs.Common.{◌≤◌, ◌+◌, ◌*◌, ◌/◌, ℕ, List, [], ◌∷◌, Err, IfErr, Ok, OnOk, length}
use Rattle.std.proofs.Common.{take, drop, map, sym, ap, subst, arith, rules}
use Rattle.std.proofs.lemmas.List.Elements.{All-nil}
use Rattle.agg_segment.specs.Query.{matches}
use Rattle.agg_segment.specs.Segment.{Stored, documents_of}
use Rattle.agg_segment.specs.declared.query.QueryTree.{QueryTree}
use Rattle.agg_request_tree.specs.Request.{Request}
use Rattle.agg_engine.specs.snapshot_results.Answers.{AnswersResults, IsMemoryRefusal}
use Rattle.agg_engine.specs.snapshot_results.Contexts.{MayBeCollected}
use Rattle.agg_engine.specs.snapshot_results.Documents.{matching_in}
use Rattle.agg_engine.specs.snapshot_results.MemoryLimits.{HaveRoom, low_roof_in}
use Rattle.agg_engine.specs.snapshot_results.Steps.{counted_of}
use Rattle.agg_engine.proofs.lemmas.snapshot_results.Contexts.{lone-segment, no-item, no-segment}
use Rattle.agg_engine.proofs.lemmas.snapshot_results.Contexts.{only-item, ready-back, ready-front}
use Rattle.agg_engine.proofs.lemmas.snapshot_results.Halves.{answers-failed, answers-none}
use Rattle.agg_engine.proofs.lemmas.snapshot_results.Halves.{both-joined, both-memory, both-most}
use Rattle.agg_engine.proofs.lemmas.snapshot_results.Halves.{first-most}
use Rattle.agg_engine.proofs.lemmas.snapshot_results.JoinedLimits.{refusal-back, refusal-front}
use Rattle.agg_engine.proofs.lemmas.snapshot_results.JoinedLimits.{room-both}
use Rattle.agg_engine.proofs.lemmas.snapshot_results.Refusals.{caused-by}
use Rattle.agg_engine.proofs.snapshot_results.snapshot.+merged_results.Given as given
use Rattle.agg_engine.proofs.snapshot_results.snapshot.+merged_results.Goals as goal
use Rattle.agg_engine.proofs.snapshot_results.snapshot.+merged_results.Goals.{
  After-merged_results-in_default,
}

-- after the calls for both parts the steps are few
few : (g : given.Over) (t : ℕ) (c : After-merged_results-in_default g t)
    (request : Request QueryTree) (query : QueryTree) (segments : List Stored)
    → MayBeCollected request query segments c.args.contexts.now
    → c.merged_results-in_default.new.steps
    ≤ c.args.steps.now + 3 * counted_of matches request (matching_in query segments)
few g t c request query segments ready =
    let contexts = c.args.contexts.now in
    both-most contexts c.split_at.result.0.now c.split_at.result.1.now (length contexts / 2)
    c.split_at.ensures.front c.split_at.ensures.back request query segments ready c.args.steps.now
    c.merged_results.new.steps (Ok c.in_ok-merged-in_default.merged)
    c.in_ok-merged-in_default.ensures.results c.merged_results-in_default.new.steps
    c.merged_results-in_default.result c.merged_results-in_default.ensures.results

pub segment_results-requires : goal.segment_results-requires
segment_results-requires g t c =
    let request = c.requires.0 in
    let query = c.requires.1 in
    let context = c.context-item.result in
    let one = only-item c.args.contexts.now context (omega arith) c.context-item.is in
    let ready = subst (MayBeCollected request query c.requires.2) one c.requires.3 in
    let lone = lone-segment request query c.requires.2 context ready in (
      request,
      query,
      lone.0,
      subst (λ ss. MayBeCollected request query ss (context ∷ [])) lone.1 ready,
    )

pub merged_results-requires : goal.merged_results-requires
merged_results-requires g t c κs within =
    let request = c.requires.0 in
    let query = c.requires.1 in
    let least = c.in_default.len_at_least in
    let front = c.split_at.ensures.front_len in
    let half = length c.args.contexts.now / 2 in
    let ready : (r : Request QueryTree) × (q : QueryTree) × (segments : List Stored)
    × MayBeCollected r q segments c.split_at.result.0.now = (
      request,
      query,
      take half c.requires.2,
      ready-front request query c.requires.2 c.args.contexts.now half c.requires.3
          c.split_at.result.0.now c.split_at.ensures.front,
    ) in
    search rules

pub returns-in_err-merged-in_default-clause-results :
    goal.returns-in_err-merged-in_default-clause-results
returns-in_err-merged-in_default-clause-results g t c = λ request query segments ready.
    let contexts = c.args.contexts.now in
    answers-failed request (matching_in query segments) c.args.steps.now
    c.merged_results.new.steps c.from_residual.result
    (first-most contexts c.split_at.result.0.now c.split_at.result.1.now (length contexts / 2)
    c.split_at.ensures.front c.split_at.ensures.back request query segments ready c.args.steps.now
    c.merged_results.new.steps (Err c.in_err-merged-in_default.field-0.0)
    c.in_err-merged-in_default.ensures.results) c.from_residual.ensures.0

pub merged_results-requires-in_default : goal.merged_results-requires-in_default
merged_results-requires-in_default g t c κs within =
    let request = c.requires.0 in
    let query = c.requires.1 in
    let least = c.in_default.len_at_least in
    let back = c.split_at.ensures.back_len in
    let half = length c.args.contexts.now / 2 in
    let ready : (r : Request QueryTree) × (q : QueryTree) × (segments : List Stored)
    × MayBeCollected r q segments c.split_at.result.1.now = (
      request,
      query,
      drop half c.requires.2,
      ready-back request query c.requires.2 c.args.contexts.now half c.requires.3
          c.split_at.result.1.now c.split_at.ensures.back,
    ) in
    search rules

pub returns-in_err-more-in_default-clause-results :
    goal.returns-in_err-more-in_default-clause-results
returns-in_err-more-in_default-clause-results g t c = λ request query segments ready.
    answers-failed request (matching_in query segments) c.args.steps.now
    c.merged_results-in_default.new.steps c.from_residual-in_err-more-in_default.result
    (few g t
    (goal.at.returns-in_err-more-in_default-clause-results g t c).After-merged_results-in_default
    request query segments ready)
    c.from_residual-in_err-more-in_default.ensures.0

pub out_of_memory-requires : goal.out_of_memory-requires
out_of_memory-requires g t c =
    let contexts = c.args.contexts.now in
    both-memory contexts c.split_at.result.0.now c.split_at.result.1.now (length contexts / 2)
    c.split_at.ensures.front c.split_at.ensures.back c.requires.0 c.requires.1 c.requires.2
    c.requires.3 c.args.steps.now c.merged_results.new.steps c.merged_results-in_default.new.steps
    c.in_ok-merged-in_default.merged c.in_ok-more-in_default.more
    c.in_ok-merged-in_default.ensures.results c.in_ok-more-in_default.ensures.results
    c.in-Err.error (λ was. c.in-Err.ensures.mismatch (ap Err was))
    (λ was. (c.in-Err.ensures.too_many (ap Err was)).1)

pub returns-in-empty-clause-results : goal.returns-in-empty-clause-results
returns-in-empty-clause-results g t c = λ request query segments given.
    let ready = subst (MayBeCollected request query segments)
    (no-item c.args.contexts.now c.in-empty.len_below) given in
    subst (λ ss. AnswersResults request (matching_in query ss) c.args.steps.now c.args.steps.now
    (Ok c.new.result)) (sym (no-segment request query segments ready.each))
    (answers-none request c.args.steps.now c.new.result c.new.ensures)

pub returns-in-len1-clause-results : goal.returns-in-len1-clause-results
returns-in-len1-clause-results g t c = λ request query segments given.
    let context = c.context-item.result in
    let one = only-item c.args.contexts.now context (omega arith) c.context-item.is in
    let ready = subst (MayBeCollected request query segments) one given in
    let lone = lone-segment request query segments context ready in
    subst (λ ss. AnswersResults request (matching_in query ss) c.args.steps.now
    c.segment_results.new.steps c.segment_results.result) (sym lone.1)
    (c.segment_results.ensures.results request query lone.0
    (subst (λ ss. MayBeCollected request query ss (context ∷ [])) lone.1 ready))

pub returns-in-Ok-clause-results : goal.returns-in-Ok-clause-results
returns-in-Ok-clause-results g t c = λ request query segments ready.
    let contexts = c.args.contexts.now in
    both-joined contexts c.split_at.result.0.now c.split_at.result.1.now (length contexts / 2)
    c.split_at.ensures.front c.split_at.ensures.back request query segments ready c.args.steps.now
    c.merged_results.new.steps c.merged_results-in_default.new.steps
    c.in_ok-merged-in_default.merged c.in_ok-more-in_default.more
    c.in_ok-merged-in_default.ensures.results c.in_ok-more-in_default.ensures.results
    c.merge_fruits.new.self c.in-Ok.ensures.ok

pub returns-in-Err-clause-results : goal.returns-in-Err-clause-results
returns-in-Err-clause-results g t c = λ request query segments ready. record {
  stands = tt;
  least = λ name. tt;
  most = few g t (goal.at.returns-in-Err-clause-results g t c).After-merged_results-in_default
      request query segments ready;
}

-- ---- the memory limit

pub returns-in_err-merged-in_default-clause-cause :
    goal.returns-in_err-merged-in_default-clause-cause
returns-in_err-merged-in_default-clause-cause g t c = λ request query segments ready.
    let contexts = c.args.contexts.now in
    let half = length contexts / 2 in
    let limits = c.args.limits.now in
    let error = c.in_err-merged-in_default.field-0.0 in
    caused-by (IsMemoryRefusal request query segments limits) c.from_residual.result error
    c.from_residual.ensures.1
    (refusal-front request query segments half limits error
    (c.in_err-merged-in_default.ensures.cause request query (take half segments)
    (ready-front request query segments contexts half ready c.split_at.result.0.now
    c.split_at.ensures.front)))

pub returns-in_err-more-in_default-clause-cause :
    goal.returns-in_err-more-in_default-clause-cause
returns-in_err-more-in_default-clause-cause g t c = λ request query segments ready.
    let contexts = c.args.contexts.now in
    let half = length contexts / 2 in
    let limits = c.args.limits.now in
    let error = c.in_err-more-in_default.field-0.0 in
    caused-by (IsMemoryRefusal request query segments limits)
    c.from_residual-in_err-more-in_default.result error
    c.from_residual-in_err-more-in_default.ensures.1
    (refusal-back request query segments half limits error
    (subst (λ l. IsMemoryRefusal request query (drop half segments) l error)
    c.in_ok-merged-in_default.ensures.limits
    (c.in_err-more-in_default.ensures.cause request query (drop half segments)
    (ready-back request query segments contexts half ready c.split_at.result.1.now
    c.split_at.ensures.back))))

pub returns-in-empty-clause-room : goal.returns-in-empty-clause-room
returns-in-empty-clause-room g t c = λ request query segments given.
    let limits = c.args.limits.now in
    let ready = subst (MayBeCollected request query segments)
    (no-item c.args.contexts.now c.in-empty.len_below) given in
    subst (λ ss. HaveRoom matches query request limits (map documents_of ss))
    (sym (no-segment request query segments ready.each))
    (All-nil (λ documents. limits.in_use + low_roof_in matches query request documents
    ≤ limits.memory_limit))

pub returns-in-len1-clause-cause : goal.returns-in-len1-clause-cause
returns-in-len1-clause-cause g t c = λ request query segments given.
    let context = c.context-item.result in
    let one = only-item c.args.contexts.now context (omega arith) c.context-item.is in
    let ready = subst (MayBeCollected request query segments) one given in
    let lone = lone-segment request query segments context ready in
    subst (λ ss. IfErr c.segment_results.result
    (IsMemoryRefusal request query ss c.args.limits.now)) (sym lone.1)
    (c.segment_results.ensures.cause request query lone.0
    (subst (λ ss. MayBeCollected request query ss (context ∷ [])) lone.1 ready))

pub returns-in-len1-clause-room : goal.returns-in-len1-clause-room
returns-in-len1-clause-room g t c = λ request query segments given.
    let context = c.context-item.result in
    let one = only-item c.args.contexts.now context (omega arith) c.context-item.is in
    let ready = subst (MayBeCollected request query segments) one given in
    let lone = lone-segment request query segments context ready in
    subst (λ ss. OnOk c.segment_results.result
    (HaveRoom matches query request c.args.limits.now (map documents_of ss))) (sym lone.1)
    (c.segment_results.ensures.room request query lone.0
    (subst (λ ss. MayBeCollected request query ss (context ∷ [])) lone.1 ready))

pub returns-in-Ok-clause-room : goal.returns-in-Ok-clause-room
returns-in-Ok-clause-room g t c = λ request query segments ready.
    let contexts = c.args.contexts.now in
    let half = length contexts / 2 in
    let limits = c.args.limits.now in
    room-both request query segments half limits
    (c.in_ok-merged-in_default.ensures.room request query (take half segments)
    (ready-front request query segments contexts half ready c.split_at.result.0.now
    c.split_at.ensures.front))
    (subst (λ l. HaveRoom matches query request l (map documents_of (drop half segments)))
    c.in_ok-merged-in_default.ensures.limits
    (c.in_ok-more-in_default.ensures.room request query (drop half segments)
    (ready-back request query segments contexts half ready c.split_at.result.1.now
    c.split_at.ensures.back)))
