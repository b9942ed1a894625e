use Rattle.std.proofs.Common.{◌≡◌, [], ◌∷◌}
use Rattle.std.specs.Prelude.{map}
use Rattle.agg_engine_tree.specs.segment_context.Plan.{plan_of, plans_of}
use Rattle.agg_engine_tree.specs.declared.segment_context.context.PerRequestAggSegCtx.{
  PerRequestAggSegCtx,
}
use Rattle.agg_composite_tests.specs.segment_context.Context.{HasCountFirst, IsContextIn, planned}
use Rattle.agg_composite_tests.proofs.lemmas.segment_context.Contexts.{is-context, together}
use Rattle.agg_composite_tests.proofs.segment_context.uncut.given.context_of.Goals as goal

pub returns : goal.returns
returns c =
    let filter = c.in_ok-filter.filter in
    let group = c.in_ok-group.group in
    together c.assembled.result (λ (ctx : PerRequestAggSegCtx). ctx.filter_req_data ≡ filter ∷ [])
    (λ (ctx : PerRequestAggSegCtx). HasCountFirst ctx.stats_metric_req_data)
    (λ (ctx : PerRequestAggSegCtx). ctx.composite_req_data ≡ group ∷ [])
    (λ (ctx : PerRequestAggSegCtx). plans_of (map plan_of ctx.agg_tree) ≡ planned)
    (IsContextIn c.args.segment.now)
    (λ ctx filters metrics composites tree.
    is-context c.args.segment.now c.in_ok-red.red c.args.composite.now c.requires.sources
    c.requires.room ctx filter group filters composites c.in_ok-filter.ensures
    c.in_ok-group.ensures.fits c.in_ok-group.ensures.composite c.in_ok-group.ensures.size metrics
    tree)
    c.assembled.ensures.filters c.assembled.ensures.metrics c.assembled.ensures.composites
    c.assembled.ensures.tree
