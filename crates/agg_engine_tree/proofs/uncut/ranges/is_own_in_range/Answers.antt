use Rattle.std.proofs.Common.{◌∙◌, ap, get_or, subst}
use Rattle.agg_engine_tree.specs.segment_context.Context.{IsAskedAt}
use Rattle.agg_engine_tree.proofs.lemmas.uncut.StartRanges.{own-fits, own-tells}
use Rattle.agg_engine_tree.proofs.uncut.ranges.is_own_in_range.Goals as goal

pub are_starts_in_range-requires : goal.are_starts_in_range-requires
are_starts_in_range-requires c =
    let found = c.index-as_slice-index.result in
    own-fits c.requires.0 c.args.ctx.now c.requires.3 c.requires.1 c.args.index found found
    (c.index-as_slice-index.is ∙ ap (λ reqs. get_or reqs c.args.index found) c.as_slice.ensures)
    c.requires.2
    (subst (λ k. IsAskedAt c.requires.0 c.args.ctx.now c.requires.1 c.requires.2 k c.args.index)
    c.in-Composite.is c.requires.4)

pub returns-in-Composite : goal.returns-in-Composite
returns-in-Composite c meaning name asks meant asked =
    let found = c.index-as_slice-index.result in
    own-tells meaning c.args.ctx.now meant name c.args.index found found
    (c.index-as_slice-index.is ∙ ap (λ reqs. get_or reqs c.args.index found) c.as_slice.ensures)
    c.are_starts_in_range.result c.args.docs.now c.are_starts_in_range.ensures asks
    (subst (λ k. IsAskedAt meaning c.args.ctx.now name asks k c.args.index) c.in-Composite.is asked)
