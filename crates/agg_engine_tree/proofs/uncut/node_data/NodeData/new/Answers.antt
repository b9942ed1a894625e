use Rattle.std.proofs.Common.{◌∙◌, ap, get_or, subst}
use Rattle.agg_engine_tree.specs.segment_context.Context.{IsAskedAt}
use Rattle.agg_engine_tree.specs.uncut.NodeData.{AreColumnsOf}
use Rattle.agg_engine_tree.proofs.lemmas.uncut.NodeData.{composite-data, filter-data, metric-data}
use Rattle.agg_engine_tree.proofs.uncut.node_data.NodeData.new.Goals as goal

pub returns-in-Composite : goal.returns-in-Composite
returns-in-Composite c meaning name asks is meant asked =
    let found = c.index-as_slice-index.result in
    composite-data meaning c.args.ctx.now c.args.segment.now is meant name c.args.index asks _ found
    (c.index-as_slice-index.is ∙ ap (λ reqs. get_or reqs c.args.index found) c.as_slice.ensures)
    (subst (λ k. IsAskedAt meaning c.args.ctx.now name asks k c.args.index) c.in-Composite.is asked)

pub returns-in-Filter : goal.returns-in-Filter
returns-in-Filter c meaning name asks is meant asked =
    let found = c.index-as_slice-index-in-Filter.result in
    filter-data meaning c.args.ctx.now c.args.segment.now is meant name c.args.index asks _ found
    (ap (λ reqs. (get_or reqs c.args.index found).evaluator) c.as_slice-in-Filter.ensures)
    (subst (λ k. IsAskedAt meaning c.args.ctx.now name asks k c.args.index) c.in-Filter.is asked)

pub returns-in-StatsKind : goal.returns-in-StatsKind
returns-in-StatsKind c meaning name asks is meant asked =
    let found = c.index-as_slice-index-in-StatsKind.result in
    metric-data meaning c.args.ctx.now c.args.segment.now is meant name c.args.index asks
    c.in-StatsKind.computed c.columns.result found
    (subst (λ reqs. AreColumnsOf c.args.segment.now (get_or reqs c.args.index found).field
    c.columns.result.now) c.as_slice-in-StatsKind.ensures c.columns.ensures.keys)
    (subst (λ k. IsAskedAt meaning c.args.ctx.now name asks k c.args.index) c.in-StatsKind.is asked)
