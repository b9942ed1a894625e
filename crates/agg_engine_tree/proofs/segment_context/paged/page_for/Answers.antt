use Rattle.std.proofs.Common.{ap, sym, ◌∙◌}
use Rattle.agg_engine_tree.proofs.lemmas.segment_context.Pages.{IsPaged, page-named, page-none}
use Rattle.agg_engine_tree.proofs.lemmas.segment_context.Pages.{page-other}
use Rattle.agg_engine_tree.proofs.segment_context.paged.page_for.Goals as goal
use Rattle.agg_engine_tree.proofs.segment_context.paged.page_for.Goals.{
  in_default-via-in-Some+else-eq,
}
use Rattle.agg_engine_tree.proofs.segment_context.paged.page_for.Goals.{in_default-via-in_default}
use Rattle.agg_engine_tree.proofs.segment_context.paged.page_for.Goals.{In_default}

-- the composite has no page of its name
unpaged : (c : In_default)
    → IsPaged c.args.page c.args.name.now c.args.composite.now c.args.composite.now
unpaged c = elim c.in_default.branch [
  | in_default-via-in-Some+else-eq w ↦ page-other c.args.page c.args.name.now
      c.args.composite.now w.in-Some.page w.in-Some.is (sym w.eq.ensures ∙ w.if-eq.false)
  | in_default-via-in_default w ↦ page-none c.args.page c.args.name.now c.args.composite.now
      w.in_default.is
]

pub returns-in-Some-clause-size : goal.returns-in-Some-clause-size
returns-in-Some-clause-size c =
    ap (λ d. d.size) (sym (page-named c.args.page c.args.name.now c.args.composite.now
    c.in-Some.page c.in-Some.is (sym c.eq.ensures ∙ c.if-eq.true)))

pub returns-in-Some-clause-after : goal.returns-in-Some-clause-after
returns-in-Some-clause-after c =
    ap (λ d. d.after) (sym (page-named c.args.page c.args.name.now c.args.composite.now
    c.in-Some.page c.in-Some.is (sym c.eq.ensures ∙ c.if-eq.true)))

pub returns-in_default-clause-size : goal.returns-in_default-clause-size
returns-in_default-clause-size c = ap (λ d. d.size) (sym (unpaged c))

pub returns-in_default-clause-after : goal.returns-in_default-clause-after
returns-in_default-clause-after c = ap (λ d. d.after) (sym (unpaged c))
