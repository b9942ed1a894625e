use Rattle.std.proofs.Common.{subst, sym}
use Rattle.std.proofs.lemmas.Result.{IfErr-weaker}
use Rattle.agg_segment.specs.declared.query.QueryTree.{QueryTree}
use Rattle.agg_request_tree.specs.Request.{Request}
use Rattle.agg_engine.specs.snapshot_results.Answers.{IsMemoryRefusal, IsRefusal}
use Rattle.agg_engine.specs.snapshot_results.Asked.{IsAsked}
use Rattle.agg_engine.specs.snapshot_results.Contexts.{AreContextsOf, MayBeCollected}
use Rattle.agg_engine.proofs.lemmas.snapshot_results.AskedNames.{asked-ascend}
use Rattle.agg_engine.proofs.lemmas.snapshot_results.Refusals.{asked-some, caused-by, on_ok-so}
use Rattle.agg_engine.proofs.lemmas.snapshot_results.Refusals.{refusal-counts, refusal-memory}
use Rattle.agg_engine.proofs.lemmas.snapshot_results.Refusals.{refusal-starts}
use Rattle.agg_engine.proofs.snapshot_results.snapshot.snapshot_results.Goals as goal
use Rattle.agg_engine.proofs.snapshot_results.snapshot.snapshot_results.Goals.{After-merged_results}

-- after the checks, the segments may be collected
ready : (g : _) (c : After-merged_results g) (request : Request QueryTree)
    → IsAsked c.args.page.now request
    → MayBeCollected request c.args.page.now.query.now c.args.segments.now c.as_slice-3.result.now
ready g c request asked =
    let page = c.args.page.now in
    let query = page.query.now in
    let segments = c.args.segments.now in
    let are = c.in_ok-contexts.ensures.ok request asked in
    record {
      each = subst (AreContextsOf request query segments) (sym c.as_slice-3.ensures) are;
      names = asked-ascend page request c.requires.asked asked;
      range = c.in_ok-check_starts.ensures.ok request query segments
          (subst (AreContextsOf request query segments) (sym c.as_slice.ensures) are);
      few = c.in_ok-check_counts.ensures.few request query segments
          (subst (AreContextsOf request query segments) (sym c.as_slice-2.ensures) are);
    }

pub check_starts-requires : goal.check_starts-requires
check_starts-requires g c =
    let asked = asked-some c.args.page.now c.requires.asked in
    let query = c.args.page.now.query.now in
    let segments = c.args.segments.now in (
      asked.0,
      query,
      segments,
      subst (AreContextsOf asked.0 query segments) (sym c.as_slice.ensures)
          (c.in_ok-contexts.ensures.ok asked.0 asked.1),
    )

pub returns-in_err-check_starts-clause-cause : goal.returns-in_err-check_starts-clause-cause
returns-in_err-check_starts-clause-cause g c = λ request asked.
    let query = c.args.page.now.query.now in
    let segments = c.args.segments.now in
    let limits = c.args.limits.now in
    let error = c.in_err-check_starts.field-0.0 in
    caused-by (IsRefusal request query segments limits) c.from_residual-in_err-check_starts.result
    error c.from_residual-in_err-check_starts.ensures.1
    (refusal-starts request query segments limits error
    (c.in_err-check_starts.ensures.err request query segments
    (subst (AreContextsOf request query segments) (sym c.as_slice.ensures)
    (c.in_ok-contexts.ensures.ok request asked))))

pub check_counts-requires : goal.check_counts-requires
check_counts-requires g c =
    let asked = asked-some c.args.page.now c.requires.asked in
    let query = c.args.page.now.query.now in
    let segments = c.args.segments.now in (
      asked.0,
      query,
      segments,
      subst (AreContextsOf asked.0 query segments) (sym c.as_slice-2.ensures)
          (c.in_ok-contexts.ensures.ok asked.0 asked.1),
    )

pub returns-in_err-check_counts-clause-cause : goal.returns-in_err-check_counts-clause-cause
returns-in_err-check_counts-clause-cause g c = λ request asked.
    let query = c.args.page.now.query.now in
    let segments = c.args.segments.now in
    let limits = c.args.limits.now in
    let error = c.in_err-check_counts.field-0.0 in
    let are = c.in_ok-contexts.ensures.ok request asked in
    caused-by (IsRefusal request query segments limits) c.from_residual-in_err-check_counts.result
    error c.from_residual-in_err-check_counts.ensures.1
    (refusal-counts request query segments limits error
    (c.in_ok-check_starts.ensures.ok request query segments
    (subst (AreContextsOf request query segments) (sym c.as_slice.ensures) are))
    (c.in_err-check_counts.ensures.err request query segments
    (subst (AreContextsOf request query segments) (sym c.as_slice-2.ensures) are)))

pub merged_results-requires : goal.merged_results-requires
merged_results-requires g c =
    let page = c.args.page.now in
    let asked = asked-some page c.requires.asked in
    let query = page.query.now in
    let segments = c.args.segments.now in
    let are = c.in_ok-contexts.ensures.ok asked.0 asked.1 in (
      asked.0,
      query,
      segments,
      record {
        each = subst (AreContextsOf asked.0 query segments) (sym c.as_slice-3.ensures) are;
        names = asked-ascend page asked.0 c.requires.asked asked.1;
        range = c.in_ok-check_starts.ensures.ok asked.0 query segments
            (subst (AreContextsOf asked.0 query segments) (sym c.as_slice.ensures) are);
        few = c.in_ok-check_counts.ensures.few asked.0 query segments
            (subst (AreContextsOf asked.0 query segments) (sym c.as_slice-2.ensures) are);
      },
    )

pub returns-clause-range : goal.returns-clause-range
returns-clause-range g c = λ request asked.
    let query = c.args.page.now.query.now in
    let segments = c.args.segments.now in
    on_ok-so c.merged_results.result
    (c.in_ok-check_starts.ensures.ok request query segments
    (subst (AreContextsOf request query segments) (sym c.as_slice.ensures)
    (c.in_ok-contexts.ensures.ok request asked)))

pub returns-clause-few : goal.returns-clause-few
returns-clause-few g c = λ request asked.
    let query = c.args.page.now.query.now in
    let segments = c.args.segments.now in
    on_ok-so c.merged_results.result
    (c.in_ok-check_counts.ensures.few request query segments
    (subst (AreContextsOf request query segments) (sym c.as_slice-2.ensures)
    (c.in_ok-contexts.ensures.ok request asked)))

pub returns-clause-cause : goal.returns-clause-cause
returns-clause-cause g c = λ request asked.
    let query = c.args.page.now.query.now in
    let segments = c.args.segments.now in
    let limits = c.args.limits.now in
    let may = ready g (goal.at.returns-clause-cause g c).After-merged_results request asked in
    IfErr-weaker c.merged_results.result (IsMemoryRefusal request query segments limits)
    (IsRefusal request query segments limits)
    (λ error. refusal-memory request query segments limits error may.range may.few)
    (c.merged_results.ensures.cause request query segments may)

pub returns-clause-room : goal.returns-clause-room
returns-clause-room g c = λ request asked.
    c.merged_results.ensures.room request c.args.page.now.query.now c.args.segments.now
    (ready g (goal.at.returns-clause-room g c).After-merged_results request asked)

pub returns-clause-results : goal.returns-clause-results
returns-clause-results g c = λ request asked.
    c.merged_results.ensures.results request c.args.page.now.query.now c.args.segments.now
    (ready g (goal.at.returns-clause-results g c).After-merged_results request asked)
