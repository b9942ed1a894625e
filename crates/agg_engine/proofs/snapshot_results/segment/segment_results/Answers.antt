use Rattle.std.proofs.Common.{[], ◌∷◌, IfErr, OnOk, refl, subst, sym, ◌∙◌}
use Rattle.agg_cache.specs.Limits.{Limits}
use Rattle.agg_segment.specs.Query.{matches}
use Rattle.agg_segment.specs.Segment.{documents_of}
use Rattle.agg_engine.specs.snapshot_results.Answers.{IsMemoryRefusal}
use Rattle.agg_engine.specs.snapshot_results.ChargeErrors.{snapshot_error}
use Rattle.agg_engine.specs.snapshot_results.MemoryLimits.{HaveRoom}
use Rattle.agg_engine.proofs.lemmas.snapshot_results.Contexts.{data-here}
use Rattle.agg_engine.proofs.lemmas.snapshot_results.Refusals.{caused-by}
use Rattle.agg_engine.proofs.lemmas.snapshot_results.SegmentMemory.{before-made, refusal-made}
use Rattle.agg_engine.proofs.snapshot_results.segment.segment_results.Goals as goal

pub new-requires : goal.new-requires
new-requires g c =
    data-here c.requires.0 c.requires.1 c.requires.2 c.args.context.now c.requires.3.each.0

pub returns-in_err-tree-clause-cause : goal.returns-in_err-tree-clause-cause
returns-in_err-tree-clause-cause g c = λ request query segment ready.
    let given = c.args.context.now in
    let limits = c.args.limits.now in
    let is = ready.each.0 in
    let error = c.in_err-tree.field-0.0 in
    caused-by (IsMemoryRefusal request query (segment ∷ []) limits) c.from_residual.result
    (snapshot_error error) c.from_residual.ensures.1
    (refusal-made request query segment given ready given.docs.items refl limits error
    (c.in_err-tree.ensures.cause is.meaning request (is.means.same ∙ sym is.reader)
    is.means.aggregations))

pub returns-clause-cause : goal.returns-clause-cause
returns-clause-cause g c = λ request query segment ready.
    subst (λ (l : Limits).
    IfErr c.made_results-results.result (IsMemoryRefusal request query (segment ∷ []) l))
    (before-made c.in_ok-tree.tree c.args.limits.now c.new.new.limits c.in_ok-tree.ensures.guard
    c.in_ok-tree.ensures.ledger)
    (c.made_results-results.ensures.cause request query segment ready)

pub returns-clause-room : goal.returns-clause-room
returns-clause-room g c = λ request query segment ready.
    subst (λ (l : Limits). OnOk c.made_results-results.result
    (HaveRoom matches query request l (documents_of segment ∷ [])))
    (before-made c.in_ok-tree.tree c.args.limits.now c.new.new.limits c.in_ok-tree.ensures.guard
    c.in_ok-tree.ensures.ledger)
    (c.made_results-results.ensures.room request query segment ready)
