use Rattle.std.proofs.Common.{subst}
use Rattle.std.specs.Prelude.{Option}
use Rattle.std.specs.List.{All, Any}
use Rattle.agg_request_tree.specs.Faults.{CompositeHasCause, HasCause, IsSound}
use Rattle.agg_request_tree.specs.Request.{composites_in}
use Rattle.agg_request_tree.proofs.Checks.{passed_on}
use Rattle.agg_engine_tree.specs.segment_context.Additions.{paged_in}
use Rattle.agg_engine_tree.specs.segment_context.Pages.{paged}
use Rattle.agg_engine_tree.specs.declared.segment_context.params.Page.{Page}
use Rattle.agg_engine_tree.proofs.lemmas.segment_context.PagedChecks.{ascend-all, checked-all}
use Rattle.agg_engine_tree.proofs.lemmas.segment_context.PagedChecks.{checked-more, checked-refused}
use Rattle.agg_engine_tree.proofs.segment_context.paged.check_paged.Goals as goal

pub loop-name-preserved : goal.loop-name-preserved
loop-name-preserved g c =
    let name = c.in-Some.name.now in
    let a = c.in-Some.aggregation.now in
    checked-more c.args.params.now.page c.args.request.now c.loop-name.name-iterator
    c.next.new.self name a c.loop-name.invariant c.in-Some.ensures.steps
    (subst (λ (page : Option Page). All IsSound (composites_in (paged_in page name a)))
    c.page.ensures c.in_ok-check_aggregation.ensures.ok)
    c.in_ok-check_aggregation.ensures.names

pub returns-in_err-check_aggregation-clause-err : goal.returns-in_err-check_aggregation-clause-err
returns-in_err-check_aggregation-clause-err g c =
    let name = c.in-Some.name.now in
    let a = c.in-Some.aggregation.now in
    let refusal = c.in_err-check_aggregation.field-0.0 in
    passed_on (HasCause (paged c.args.params.now.page c.args.request.now)) refusal
    c.from_residual.result c.from_residual.ensures.1
    (checked-refused c.args.params.now.page c.args.request.now c.loop-name.name-iterator
    c.next.new.self name a c.loop-name.invariant c.in-Some.ensures.steps refusal
    (subst (λ (page : Option Page).
    Any (λ d. CompositeHasCause d refusal) (composites_in (paged_in page name a)))
    c.page.ensures c.in_err-check_aggregation.ensures.err))

pub returns-clause-ok : goal.returns-clause-ok
returns-clause-ok g c =
    checked-all c.args.params.now.page c.args.request.now c.loop-name.name-iterator
    c.loop-name.invariant c.in-None.ensures.steps.0

pub returns-clause-names : goal.returns-clause-names
returns-clause-names g c =
    ascend-all c.args.params.now.page c.args.request.now c.loop-name.name-iterator
    c.loop-name.invariant c.in-None.ensures.steps.0 c.iter-name-items.ensures.ascending
