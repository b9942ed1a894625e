use Rattle.std.proofs.Common.{option_map}
use Rattle.std.specs.List.{Any}
use Rattle.std.proofs.lemmas.Result.{on_ok_weaker}
use Rattle.agg_request_tree.specs.Faults.{CompositeHasCause, HasCause}
use Rattle.agg_request_tree.specs.Request.{below_of, composites_in}
use Rattle.agg_request_tree.proofs.CheckedRequests.{each-refusal}
use Rattle.agg_engine_tree.specs.segment_context.Additions.{paged_in}
use Rattle.agg_engine_tree.proofs.lemmas.segment_context.PagedChecks.{below-refused, sound-paged}
use Rattle.agg_engine_tree.proofs.segment_context.paged.check_aggregation.Goals as goal

pub returns-clause-ok : goal.returns-clause-ok
returns-clause-ok g c =
    on_ok_weaker c.check_request.result
    (sound-paged (option_map (λ p. p.now) c.args.page) c.args.name.now c.args.aggregation.now
    c.in_ok-check_own.ensures.ok)
    c.check_request.ensures.ok

pub returns-clause-err : goal.returns-clause-err
returns-clause-err g c =
    let page = option_map (λ p. p.now) c.args.page in
    let name = c.args.name.now in
    let a = c.args.aggregation.now in
    each-refusal (λ e. HasCause (below_of a) e)
    (λ e. Any (λ d. CompositeHasCause d e) (composites_in (paged_in page name a)))
    c.check_request.result (below-refused page name a) c.check_request.ensures.err
