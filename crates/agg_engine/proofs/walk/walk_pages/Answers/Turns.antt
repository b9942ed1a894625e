-- A turn of the loop over the snapshots: how far the walk has come, and what its page answers.
use Rattle.std.proofs.Common.{◌≡◌, ◌+◌, List, ◌∷◌, IsErrAnd, IsErrOf, Err, Ok, Result, drop}
use Rattle.std.proofs.Common.{map, sym, ap, subst, arith}
use Rattle.std.proofs.Common.{◌∙◌}
use Rattle.agg_segment.specs.Segment.{documents_of}
use Rattle.agg_request_tree.specs.Matching.{built_matches}
use Rattle.agg_engine_tree.specs.segment_context.Pages.{paged}
use Rattle.agg_request_tree.specs.ChangedRequest.{request_after}
use Rattle.agg_engine_tree.specs.segment_context.Trees.{AreTreesOf}
use Rattle.agg_request_tree.specs.BuiltRequest.{built_tree}
use Rattle.agg_results.specs.declared.final_results.types.AggregationResults.{AggregationResults}
use Rattle.agg_engine.specs.PageAnswers.{AnswersPage}
use Rattle.agg_segment.specs.Snapshot.{snapshot_documents, snapshots_documents}
use Rattle.agg_segment.specs.SnapshotDocuments.{SnapshotDocuments}
use Rattle.agg_engine.specs.Steps.{TakesAtMost}
use Rattle.agg_engine.specs.Walk.{MayBeAsked}
use Rattle.agg_engine.specs.declared.walk.error.WalkError.{WalkError}
use Rattle.agg_engine.proofs.Snapshots.{may_be_asked}
use Rattle.agg_engine.proofs.StepsTaken.{IsCounting, counting-here}
use Rattle.agg_engine.proofs.WalkLoop.{IsWalking, left-at}
use Rattle.agg_engine.proofs.WalkPages.{AnswersAt, answers-at, page-most}
use Rattle.agg_engine.proofs.WalkRefusals.{IsFirst, not-first}
use Rattle.agg_engine.proofs.walk.walk_pages.Given as given
use Rattle.agg_engine.proofs.walk.walk_pages.Goals as goal
use Rattle.agg_engine.proofs.walk.walk_pages.Goals.{After-snapshot_page-answer, In_err-results}
use Rattle.agg_engine.proofs.walk.walk_pages.Goals.{In_ok-params, In_ok-results, In_ok-set_page}

-- the walk may be asked
pub asked : (g : given.Over) (c : In_ok-params g)
    → MayBeAsked (λ b.
    (goal.QueryBuilder-dyn g (b.builder.vtable, b.builder.value)).tree_for b.builder.value
    c.args.schema.now) c.args.name.now c.args.request.now (snapshots_documents c.args.snapshots.now)
asked g c =
    may_be_asked c.args.snapshots.now _ c.as_slice.ensures _ c.args.name.now
    c.args.request.now c.in-Some.composite.now c.in_ok-check_request.ensures.ok
    c.in-Some.ensures.named (sym c.if-some_page_has_no_room.ensures) c.in_ok-params.ensures.each

-- the trees are those of the request
pub trees : (g : given.Over) (c : In_ok-set_page g)
    → AreTreesOf (built_tree (λ b.
    (goal.QueryBuilder-dyn g (b.builder.vtable, b.builder.value)).tree_for b.builder.value
    c.args.schema.now)) c.args.request.now c.set_page.new.params.trees
trees g c = c.in_ok-set_page.ensures.trees ∙ c.loop-snapshot.invariant.trees

-- the walk has come so far, with so many steps, and goes on over snapshots
abbrev pub Walking : (g : given.Over) (c : After-snapshot_page-answer g) → List SnapshotDocuments
    → Type 0
Walking g c rest =
    IsWalking (built_matches (λ b.
    (goal.QueryBuilder-dyn g (b.builder.vtable, b.builder.value)).tree_for b.builder.value
    c.args.schema.now)) c.args.limits.now c.args.name.now c.args.query.now
    c.args.request.now (snapshots_documents c.args.snapshots.now)
    c.loop-snapshot.invariant.walking.0 c.loop-snapshot.after rest c.loop-snapshot.pages

abbrev pub Counting : (g : given.Over) (c : After-snapshot_page-answer g) → List SnapshotDocuments
    → Type 0
Counting g c rest =
    IsCounting (built_matches (λ b.
    (goal.QueryBuilder-dyn g (b.builder.vtable, b.builder.value)).tree_for b.builder.value
    c.args.schema.now)) c.args.name.now c.args.query.now c.args.request.now
    (snapshots_documents c.args.snapshots.now)
    (request_after c.args.name.now c.loop-snapshot.after
    c.args.request.now) rest c.loop-snapshot.pages
    c.loop-snapshot.snapshot-index c.args.steps.now c.loop-snapshot.steps

-- over this one and the rest
abbrev pub left : (g : given.Over) (c : After-snapshot_page-answer g) → List SnapshotDocuments
left g c =
    snapshot_documents c.snapshot-item.result ∷ snapshots_documents
    (drop (c.loop-snapshot.snapshot-index + 1) c.args.snapshots.now)

pub here : (g : given.Over) (c : After-snapshot_page-answer g) → Walking g c (left g c)
here g c =
    left-at (Walking g c) c.args.snapshots.now _ c.loop-snapshot.snapshot-index
    c.loop-snapshot.invariant.walking.1 c.as_slice-snapshot-items.ensures c.snapshot-item.result
    (omega arith) c.snapshot-item.is

pub counting : (g : given.Over) (c : After-snapshot_page-answer g) → Counting g c (left g c)
counting g c =
    left-at (Counting g c) c.args.snapshots.now _ c.loop-snapshot.snapshot-index
    c.loop-snapshot.invariant.counting c.as_slice-snapshot-items.ensures c.snapshot-item.result
    (omega arith) c.snapshot-item.is

-- what the call for its page answers
abbrev pub Answered : (g : given.Over) (c : After-snapshot_page-answer g)
    → Result AggregationResults WalkError → Type 0
Answered g c =
    AnswersAt (built_matches (λ b.
    (goal.QueryBuilder-dyn g (b.builder.vtable, b.builder.value)).tree_for b.builder.value
    c.args.schema.now)) c.args.limits.now c.args.name.now c.args.query.now
    c.args.request.now c.loop-snapshot.after
    (snapshot_documents c.snapshot-item.result) c.loop-snapshot.steps
    c.snapshot_page-answer.new.steps

pub answered : (g : given.Over) (c : After-snapshot_page-answer g)
    (result : Result AggregationResults WalkError)
    → AnswersPage (built_matches (λ b.
    (goal.QueryBuilder-dyn g (b.builder.vtable, b.builder.value)).tree_for b.builder.value
    c.args.schema.now)) c.loop-snapshot.limits c.args.query.now
    (paged c.set_page.new.params.page c.args.request.now)
    (map documents_of c.as_slice-in-loop-snapshot.result.now) c.loop-snapshot.steps
    c.snapshot_page-answer.new.steps result
    → Answered g c result
answered g c result answer =
    answers-at _ c.args.limits.now c.args.name.now c.args.query.now
    c.args.request.now c.loop-snapshot.after
    (snapshot_documents c.snapshot-item.result) c.set_page.new.params.page
    (map documents_of c.as_slice-in-loop-snapshot.result.now) c.loop-snapshot.steps
    c.snapshot_page-answer.new.steps result c.in_ok-set_page.ensures.page
    (ap (map documents_of) c.as_slice-in-loop-snapshot.ensures)
    (subst (λ limits. AnswersPage (built_matches (λ b.
    (goal.QueryBuilder-dyn g (b.builder.vtable, b.builder.value)).tree_for b.builder.value
    c.args.schema.now)) limits c.args.query.now
    (paged c.set_page.new.params.page c.args.request.now)
    (map documents_of c.as_slice-in-loop-snapshot.result.now) c.loop-snapshot.steps
    c.snapshot_page-answer.new.steps result) c.loop-snapshot.invariant.kept answer)

pub page-of : (g : given.Over) (c : In_ok-results g)
    → Answered g (goal.at.In_ok-results g c).After-snapshot_page-answer
    (Ok c.in_ok-results.results)
page-of g c =
    let turn = goal.at.In_ok-results g c in
    answered g turn.After-snapshot_page-answer (Ok c.in_ok-results.results)
    (c.in_ok-results.ensures.answer _ (trees g turn.In_ok-set_page))

pub refusal-of : (g : given.Over) (c : In_err-results g)
    → Answered g (goal.at.In_err-results g c).After-snapshot_page-answer
    (Err c.in_err-results.field-0.0)
refusal-of g c =
    let turn = goal.at.In_err-results g c in
    answered g turn.After-snapshot_page-answer (Err c.in_err-results.field-0.0)
    (c.in_err-results.ensures.answer _ (trees g turn.In_ok-set_page))

-- its steps are as many as the snapshots so far allow
abbrev pub Most : (g : given.Over) (c : After-snapshot_page-answer g) → Type 0
Most g c =
    TakesAtMost (built_matches (λ b.
    (goal.QueryBuilder-dyn g (b.builder.vtable, b.builder.value)).tree_for b.builder.value
    c.args.schema.now)) c.args.query.now c.args.name.now c.args.request.now
    (snapshots_documents c.args.snapshots.now)
    c.args.steps.now c.snapshot_page-answer.new.steps

pub most : (g : given.Over) (c : After-snapshot_page-answer g)
    (result : Result AggregationResults WalkError) → Answered g c result → Most g c
most g c result answer =
    counting-here _ c.args.name.now c.args.query.now c.args.request.now
    (snapshots_documents c.args.snapshots.now) _
    (snapshot_documents c.snapshot-item.result) _ c.loop-snapshot.pages
    c.loop-snapshot.snapshot-index c.args.steps.now c.loop-snapshot.steps
    c.snapshot_page-answer.new.steps (counting g c) (page-most _ c.args.limits.now
    c.args.name.now c.args.query.now
    c.args.request.now c.loop-snapshot.after
    (snapshot_documents c.snapshot-item.result) c.loop-snapshot.steps
    c.snapshot_page-answer.new.steps result answer)

-- it is none that comes before any snapshot
pub after-first : (g : given.Over) (c : In_err-results g) {T : Type 0} (result : Result T WalkError)
    (named : WalkError) → IsErrAnd result (λ e. e ≡ c.in_err-results.field-0.0)
    → IsErrOf result named → ¬ (IsFirst named)
after-first g c result named =
    not-first _ _ _ _ _ result c.in_err-results.field-0.0 named (refusal-of g c)

-- its steps
pub most-of : (g : given.Over) (c : In_ok-results g)
    → Most g (goal.at.In_ok-results g c).After-snapshot_page-answer
most-of g c =
    most g (goal.at.In_ok-results g c).After-snapshot_page-answer (Ok c.in_ok-results.results)
    (page-of g c)
