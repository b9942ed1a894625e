use Rattle.std.proofs.Common.{◌≤◌, ◌+◌, ◌*◌, [], ◌∷◌, Some, subst, sym}
use Rattle.agg_cache.specs.Waiting.{under}
use Rattle.agg_engine_tree.specs.collector_tree.Tree.{IsFor, held_of}
use Rattle.agg_engine_tree.specs.declared.collector_tree.tree.SegmentCollectorTree.{
  SegmentCollectorTree,
}
use Rattle.agg_engine_tree.specs.tree_results.Names.{HasNamesApart}
use Rattle.agg_engine_tree.specs.tree_results.Results.{GroupStands}
use Rattle.agg_segment.specs.Query.{matches}
use Rattle.agg_segment.specs.Segment.{Stored}
use Rattle.agg_segment.specs.declared.query.QueryTree.{QueryTree}
use Rattle.agg_request_tree.specs.Request.{Request}
use Rattle.agg_engine.specs.snapshot_results.Answers.{IsMemoryRefusal}
use Rattle.agg_engine.specs.snapshot_results.ChargeErrors.{snapshot_error}
use Rattle.agg_engine.specs.snapshot_results.ChargedTrees.{before}
use Rattle.agg_engine.specs.snapshot_results.Contexts.{MayBeCollected}
use Rattle.agg_engine.specs.snapshot_results.Documents.{matching_in}
use Rattle.agg_engine.specs.snapshot_results.Steps.{counted_of}
use Rattle.agg_engine.proofs.lemmas.snapshot_results.Halves.{answers-failed}
use Rattle.agg_engine.proofs.lemmas.snapshot_results.ChargedTrees.{charges-within}
use Rattle.agg_engine.proofs.lemmas.snapshot_results.Refusals.{caused-by}
use Rattle.agg_engine.proofs.lemmas.snapshot_results.SegmentMemory.{refusal-flushed, refusal-taken}
use Rattle.agg_engine.proofs.lemmas.snapshot_results.SegmentMemory.{room-flushed}
use Rattle.agg_engine.proofs.lemmas.snapshot_results.SegmentTrees.{answers-flushed, apart-flushed}
use Rattle.agg_engine.proofs.lemmas.snapshot_results.SegmentTrees.{may-flush, may-new, most-flushed}
use Rattle.agg_engine.proofs.lemmas.snapshot_results.SegmentTrees.{most-taken, right-flushed}
use Rattle.agg_engine.proofs.snapshot_results.segment.tree_results.Given as given
use Rattle.agg_engine.proofs.snapshot_results.segment.tree_results.Goals as goal
use Rattle.agg_engine.proofs.snapshot_results.segment.tree_results.Goals.{After-flush}

-- after all that waits was handed down, the steps are few
few : (g : given.Over) (c : After-flush g)
    → (request : Request QueryTree) (query : QueryTree) (segment : Stored)
    → MayBeCollected request query (segment ∷ []) (c.args.context.now ∷ [])
    → c.flush.new.steps
    ≤ c.args.steps.now + 3 * counted_of matches request (matching_in query (segment ∷ []))
few g c request query segment ready =
    most-flushed request query segment c.args.context.now ready c.deref.result.now
    c.deref.ensures.value (held_of c.args.tree.now.tree) (held_of c.take_blocks.new.self.tree)
    c.args.steps.now c.take_blocks.new.steps c.requires.made.new
    c.in_ok-take_blocks.ensures.takes c.flush.new.steps c.flush.ensures.most

pub take_blocks-requires-clause-may : goal.take_blocks-requires-clause-may
take_blocks-requires-clause-may g c =
    let ready = c.requires.ready in
    may-new ready.0 ready.1 ready.2 c.args.context.now ready.3 c.deref.result.now
    c.deref.ensures.value (held_of c.args.tree.now.tree) c.requires.made.new

pub returns-in_err-take_blocks-clause-results : goal.returns-in_err-take_blocks-clause-results
returns-in_err-take_blocks-clause-results g c = λ request query segment ready.
    answers-failed request (matching_in query (segment ∷ [])) c.args.steps.now
    c.take_blocks.new.steps c.from_residual.result
    (most-taken request query segment c.args.context.now ready c.deref.result.now
    c.deref.ensures.value (held_of c.args.tree.now.tree) c.requires.made.new c.args.steps.now
    c.take_blocks.new.steps c.take_blocks.ensures.most)
    c.from_residual.ensures.0

pub returns-in_err-take_blocks-clause-cause : goal.returns-in_err-take_blocks-clause-cause
returns-in_err-take_blocks-clause-cause g c = λ request query segment ready.
    let tree = c.args.tree.now in
    let limits = c.args.limits.now in
    let error = c.in_err-take_blocks.field-0.0 in
    caused-by (IsMemoryRefusal request query (segment ∷ []) (before tree.guard limits))
    c.from_residual.result (snapshot_error error) c.from_residual.ensures.1
    (refusal-taken request query segment c.args.context.now ready c.deref.result.now
    c.deref.ensures.value tree c.requires.made limits c.requires.charged error
    c.in_err-take_blocks.ensures.cause)

pub flush-requires-clause-may : goal.flush-requires-clause-may
flush-requires-clause-may g c =
    let ready = c.requires.ready in
    may-flush ready.0 ready.1 ready.2 c.args.context.now ready.3 c.deref.result.now
    c.deref.ensures.value (held_of c.args.tree.now.tree) (held_of c.take_blocks.new.self.tree)
    c.args.steps.now c.take_blocks.new.steps c.requires.made.new
    c.in_ok-take_blocks.ensures.takes

pub flush-requires-clause-charged : goal.flush-requires-clause-charged
flush-requires-clause-charged g c =
    charges-within c.args.tree.now c.take_blocks.new.self c.args.limits.now
    c.take_blocks.new.limits c.in_ok-take_blocks.ensures.charges c.requires.charged

pub returns-in_err-flush-clause-results : goal.returns-in_err-flush-clause-results
returns-in_err-flush-clause-results g c = λ request query segment ready.
    let at = goal.at.returns-in_err-flush-clause-results g c in
    answers-failed request (matching_in query (segment ∷ [])) c.args.steps.now
    c.flush.new.steps c.from_residual-in_err-flush.result
    (few g at.After-flush request query segment ready)
    c.from_residual-in_err-flush.ensures.0

pub returns-in_err-flush-clause-cause : goal.returns-in_err-flush-clause-cause
returns-in_err-flush-clause-cause g c = λ request query segment ready.
    let tree = c.args.tree.now in
    let limits = c.args.limits.now in
    let error = c.in_err-flush.field-0.0 in
    caused-by (IsMemoryRefusal request query (segment ∷ []) (before tree.guard limits))
    c.from_residual-in_err-flush.result (snapshot_error error)
    c.from_residual-in_err-flush.ensures.1
    (refusal-flushed request query segment c.args.context.now ready c.deref.result.now
    c.deref.ensures.value tree c.requires.made limits c.requires.charged
    c.take_blocks.new.self c.take_blocks.new.limits c.args.steps.now c.take_blocks.new.steps
    c.in_ok-take_blocks.ensures.takes c.in_ok-take_blocks.ensures.charges error
    c.in_err-flush.ensures.cause)

pub into_results-requires-clause-right : goal.into_results-requires-clause-right
into_results-requires-clause-right g c =
    let ready = c.requires.ready.3 in
    let ctx = c.args.context.now.aggregations.per_request in
    let docs = c.deref.result.now in
    let now = right-flushed c.requires.ready.0 c.requires.ready.1 c.requires.ready.2
    c.args.context.now ready docs c.deref.ensures.value (held_of c.args.tree.now.tree)
    (held_of c.take_blocks.new.self.tree) c.args.steps.now c.take_blocks.new.steps
    c.requires.made.new c.in_ok-take_blocks.ensures.takes (held_of c.flush.new.self.tree)
    c.flush.new.steps c.in_ok-flush.ensures.takes in (
      ready.each.0.meaning,
      under 0 docs,
      now.0,
      now.1.context.meant,
      subst (λ (t : SegmentCollectorTree).
          IsFor ready.each.0.meaning ctx (held_of t) (under 0 docs) now.0)
          (sym c.take_tree.ensures.tree) now.1.right,
    )

pub into_results-requires-clause-apart : goal.into_results-requires-clause-apart
into_results-requires-clause-apart g c =
    let ctx = c.args.context.now.aggregations.per_request in
    subst (λ (t : SegmentCollectorTree). HasNamesApart ctx (held_of t))
    (sym c.take_tree.ensures.tree)
    (apart-flushed c.requires.ready.0 c.requires.ready.1 c.requires.ready.2 c.args.context.now
    c.requires.ready.3 c.deref.result.now c.deref.ensures.value (held_of c.args.tree.now.tree)
    (held_of c.take_blocks.new.self.tree) c.args.steps.now c.take_blocks.new.steps
    c.requires.made.new c.in_ok-take_blocks.ensures.takes (held_of c.flush.new.self.tree)
    c.flush.new.steps c.in_ok-flush.ensures.takes)

pub returns-in_err-into_results-clause-results : goal.returns-in_err-into_results-clause-results
returns-in_err-into_results-clause-results g c = λ request query segment ready.
    let at = goal.at.returns-in_err-into_results-clause-results g c in
    answers-failed request (matching_in query (segment ∷ [])) c.args.steps.now
    c.flush.new.steps c.from_residual-in_err-into_results.result
    (few g at.After-flush request query segment ready)
    c.from_residual-in_err-into_results.ensures.0

pub returns-clause-results : goal.returns-clause-results
returns-clause-results g c = λ request query segment ready.
    let ctx = c.args.context.now.aggregations.per_request in
    let results = c.into_results.new.results in
    answers-flushed request query segment c.args.context.now ready c.deref.result.now
    c.deref.ensures.value (held_of c.args.tree.now.tree) (held_of c.take_blocks.new.self.tree)
    c.args.steps.now c.take_blocks.new.steps c.requires.made.new
    c.in_ok-take_blocks.ensures.takes (held_of c.flush.new.self.tree) c.flush.new.steps
    c.in_ok-flush.ensures.takes results
    (subst (λ (t : SegmentCollectorTree). GroupStands ctx (held_of t) (Some 0) results.results)
    c.take_tree.ensures.tree (c.in_ok-into_results.ensures.all c.new-results.ensures))
    c.in_ok-flush.ensures.most

pub returns-clause-room : goal.returns-clause-room
returns-clause-room g c = λ request query segment ready.
    room-flushed request query segment c.args.context.now ready c.deref.result.now
    c.deref.ensures.value c.args.tree.now c.requires.made c.args.limits.now c.requires.charged
    c.take_blocks.new.self c.take_blocks.new.limits c.args.steps.now c.take_blocks.new.steps
    c.in_ok-take_blocks.ensures.takes c.in_ok-take_blocks.ensures.charges c.flush.new.self
    c.flush.new.limits c.flush.new.steps c.in_ok-flush.ensures.takes
    c.in_ok-flush.ensures.charges c.in_ok-flush.ensures.exact c.in_ok-flush.ensures.within
