use Rattle.std.proofs.Common.{option_map}
use Rattle.std.specs.List.{Any}
use Rattle.agg_request_tree.specs.Faults.{CompositeHasCause}
use Rattle.agg_request_tree.specs.Request.{own_composite}
use Rattle.agg_request_tree.proofs.CheckedRequests.{each-refusal}
use Rattle.agg_engine_tree.specs.segment_context.Additions.{paged_agg}
use Rattle.agg_engine_tree.proofs.lemmas.segment_context.PagedChecks.{composite-refused}
use Rattle.agg_engine_tree.proofs.segment_context.paged.check_own.Goals as goal

pub returns-in-Composite-clause-err : goal.returns-in-Composite-clause-err
returns-in-Composite-clause-err g c =
    let page = option_map (λ p. p.now) c.args.page in
    let agg = c.args.agg.now in
    let composite = c.in-Composite.composite in
    let size = c.page_for-size.result.0 in
    let after = c.page_for-size.result.1.now in
    each-refusal (CompositeHasCause (record composite { size = size; after = after }))
    (λ e. Any (λ d. CompositeHasCause d e) (own_composite (paged_agg page c.args.name.now agg)))
    c.check_composite.result
    (composite-refused page c.args.name.now agg composite size after c.in-Composite.is
    c.page_for-size.ensures.size c.page_for-size.ensures.after)
    c.check_composite.ensures.err
