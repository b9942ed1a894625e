use Rattle.std.proofs.Common.{◌≡◌, ◌≤◌, ◌+◌, ◌*◌, [], ◌∷◌, subst}
use Rattle.agg_request_tree.specs.charges.Charges.{bucket_bytes}
use Rattle.agg_segment.specs.Segment.{Stored}
use Rattle.agg_segment.specs.declared.query.QueryTree.{QueryTree}
use Rattle.agg_segment.specs.Query.{matches}
use Rattle.agg_request_tree.specs.Request.{Request}
use Rattle.agg_engine.specs.snapshot_results.Answers.{IsMemoryRefusal}
use Rattle.agg_engine.specs.snapshot_results.ChargeErrors.{snapshot_error}
use Rattle.agg_engine.specs.snapshot_results.ChargedTrees.{IsFixedCause, before}
use Rattle.agg_engine.specs.snapshot_results.Contexts.{MayBeCollected}
use Rattle.agg_engine.specs.snapshot_results.Documents.{matching_in}
use Rattle.agg_engine.specs.snapshot_results.Steps.{counted_of}
use Rattle.agg_engine.proofs.lemmas.snapshot_results.Halves.{answers-failed}
use Rattle.agg_engine.proofs.lemmas.snapshot_results.ListedSegments.{after, answers-listed, leaf}
use Rattle.agg_engine.proofs.lemmas.snapshot_results.ListedSegments.{may-list, most-listed}
use Rattle.agg_engine.proofs.lemmas.snapshot_results.ListedSegments.{refusal-listed, room-listed}
use Rattle.agg_engine.proofs.lemmas.snapshot_results.ListedSegments.{stored}
use Rattle.agg_engine.proofs.lemmas.snapshot_results.Refusals.{caused-by}
use Rattle.agg_engine.proofs.snapshot_results.listed.listed_results.Given as given
use Rattle.agg_engine.proofs.snapshot_results.listed.listed_results.Goals as goal
use Rattle.agg_engine.proofs.snapshot_results.listed.listed_results.Goals.{After-lowest_entries}

-- after the tuples were listed, the steps are few
few : (g : given.Over) (c : After-lowest_entries g)
    → (request : Request QueryTree) (query : QueryTree) (segment : Stored)
    → MayBeCollected request query (segment ∷ []) (c.args.lone.now.context.now ∷ [])
    → c.lowest_entries.new.steps
    ≤ c.args.steps.now + 3 * counted_of matches request (matching_in query (segment ∷ []))
few g c request query segment ready =
    let given = c.args.lone.now.context.now in
    let req = c.args.lone.now.req.now in
    let lone = c.requires.lone in
    let docs = c.deref.result.now in
    let same = c.deref.ensures.value in
    most-listed request query segment given ready req lone docs same c.args.steps.now
    c.lowest_entries.new.steps
    (c.lowest_entries.ensures.entries (stored request query segment given ready req lone docs same)
    (after request query segment given ready req lone docs same)
    (may-list request query segment given ready req lone docs same)).most

pub lowest_entries-requires-clause-may : goal.lowest_entries-requires-clause-may
lowest_entries-requires-clause-may g c =
    let given = c.args.lone.now.context.now in
    let req = c.args.lone.now.req.now in
    let lone = c.requires.lone in
    let docs = c.deref.result.now in
    let same = c.deref.ensures.value in
    let ready = c.requires.ready in (
      stored ready.0 ready.1 ready.2 given ready.3 req lone docs same,
      after ready.0 ready.1 ready.2 given ready.3 req lone docs same,
      may-list ready.0 ready.1 ready.2 given ready.3 req lone docs same,
    )

pub returns-in_err-entries-clause-results : goal.returns-in_err-entries-clause-results
returns-in_err-entries-clause-results g c = λ request query segment ready.
    let at = goal.at.returns-in_err-entries-clause-results g c in
    answers-failed request (matching_in query (segment ∷ [])) c.args.steps.now
    c.lowest_entries.new.steps c.from_residual.result
    (few g at.After-lowest_entries request query segment ready)
    c.from_residual.ensures.0

pub returns-in_err-charge_buckets-clause-results :
    goal.returns-in_err-charge_buckets-clause-results
returns-in_err-charge_buckets-clause-results g c = λ request query segment ready.
    let at = goal.at.returns-in_err-charge_buckets-clause-results g c in
    answers-failed request (matching_in query (segment ∷ [])) c.args.steps.now
    c.lowest_entries.new.steps c.from_residual-in_err-charge_buckets.result
    (few g at.After-lowest_entries request query segment ready)
    c.from_residual-in_err-charge_buckets.ensures.0

pub returns-in_err-charge_buckets-clause-cause : goal.returns-in_err-charge_buckets-clause-cause
returns-in_err-charge_buckets-clause-cause g c = λ request query segment ready.
    let given = c.args.lone.now.context.now in
    let req = c.args.lone.now.req.now in
    let lone = c.requires.lone in
    let docs = c.deref.result.now in
    let same = c.deref.ensures.value in
    let tree = c.args.tree.now in
    let limits = c.args.limits.now in
    let error = c.in_err-charge_buckets.field-0.0 in
    let listed = c.in_ok-entries.ensures.entries
    (stored request query segment given ready req lone docs same)
    (after request query segment given ready req lone docs same)
    (may-list request query segment given ready req lone docs same) in
    caused-by (IsMemoryRefusal request query (segment ∷ []) (before tree.guard limits))
    c.from_residual-in_err-charge_buckets.result (snapshot_error error)
    c.from_residual-in_err-charge_buckets.ensures.1
    (refusal-listed request query segment given ready req lone docs same c.in_ok-entries.entries
    listed.entries tree c.requires.made limits c.requires.charged error
    (subst (λ n. IsFixedCause (bucket_bytes req.req.now * n) limits error) c.len.ensures
    c.in_err-charge_buckets.ensures.cause))

pub add_leaf-requires-clause-page : goal.add_leaf-requires-clause-page
add_leaf-requires-clause-page g c =
    let given = c.args.lone.now.context.now in
    let req = c.args.lone.now.req.now in
    let lone = c.requires.lone in
    let docs = c.deref.result.now in
    let same = c.deref.ensures.value in
    let ready = c.requires.ready in
    let segment = stored ready.0 ready.1 ready.2 given ready.3 req lone docs same in
    let bound = after ready.0 ready.1 ready.2 given ready.3 req lone docs same in (
      segment,
      bound,
      docs,
      (c.in_ok-entries.ensures.entries segment bound
          (may-list ready.0 ready.1 ready.2 given ready.3 req lone docs same)).entries,
    )

pub returns-in_err-add_leaf-clause-results : goal.returns-in_err-add_leaf-clause-results
returns-in_err-add_leaf-clause-results g c = λ request query segment ready.
    let at = goal.at.returns-in_err-add_leaf-clause-results g c in
    answers-failed request (matching_in query (segment ∷ [])) c.args.steps.now
    c.lowest_entries.new.steps c.from_residual-in_err-add_leaf.result
    (few g at.After-lowest_entries request query segment ready)
    c.from_residual-in_err-add_leaf.ensures.0

pub returns-clause-results : goal.returns-clause-results
returns-clause-results g c = λ request query segment ready.
    let given = c.args.lone.now.context.now in
    let req = c.args.lone.now.req.now in
    let lone = c.requires.lone in
    let docs = c.deref.result.now in
    let same = c.deref.ensures.value in
    let bound = after request query segment given ready req lone docs same in
    let here = stored request query segment given ready req lone docs same in
    let one = leaf request query segment given ready req lone docs same in
    let listed = c.in_ok-entries.ensures.entries here bound
    (may-list request query segment given ready req lone docs same) in
    answers-listed request query segment given ready req lone docs same c.args.steps.now
    c.lowest_entries.new.steps listed.most c.add_leaf.new.results listed.least
    (c.in_ok-add_leaf.ensures here bound docs listed.entries one.a one.asked one.leaf)

pub returns-clause-room : goal.returns-clause-room
returns-clause-room g c = λ request query segment ready.
    let given = c.args.lone.now.context.now in
    let req = c.args.lone.now.req.now in
    let lone = c.requires.lone in
    let docs = c.deref.result.now in
    let same = c.deref.ensures.value in
    let tree = c.args.tree.now in
    let new = c.charge_buckets.new.self in
    let listed = c.in_ok-entries.ensures.entries
    (stored request query segment given ready req lone docs same)
    (after request query segment given ready req lone docs same)
    (may-list request query segment given ready req lone docs same) in
    room-listed request query segment given ready req lone docs same c.in_ok-entries.entries
    listed.entries tree c.requires.made c.args.limits.now c.requires.charged new
    c.charge_buckets.new.limits c.in_ok-charge_buckets.ensures.charges
    (subst (λ n. new.guard ≡ tree.guard + bucket_bytes req.req.now * n) c.len.ensures
    c.in_ok-charge_buckets.ensures.exact)
    c.in_ok-charge_buckets.ensures.within
