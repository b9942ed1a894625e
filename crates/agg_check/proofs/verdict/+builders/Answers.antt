use Rattle.agg_check.proofs.RequestBuilders.{builder-of_next, builders-below, empty-where_none}
use Rattle.agg_request_tree.specs.Request.{builders_of, own_builder}
use Rattle.agg_check.proofs.lemmas.refusals.SeenRequests.{IsSeenUpTo-all}
use Rattle.agg_check.proofs.verdict.+builders.Goals as goal

pub asks_for_builder-returns-then-has_builder : goal.asks_for_builder-returns-then-has_builder
asks_for_builder-returns-then-has_builder g t c =
    builder-of_next c.args.request.now c.loop-aggregation.aggregation-iterator
    c.in-Some.field-0-0.now c.in-Some.aggregation.now c.next.new.self
    c.loop-aggregation.invariant c.in-Some.ensures.steps c.if-has_builder.ensures

pub asks_for_builder-returns : goal.asks_for_builder-returns
asks_for_builder-returns g t c =
    empty-where_none (builders_of c.args.request.now)
    (IsSeenUpTo-all own_builder (λ b. ⊥) c.args.request.now
    c.loop-aggregation.aggregation-iterator c.loop-aggregation.invariant
    c.in-None.ensures.steps.0)

pub has_builder-returns-else-is_built : goal.has_builder-returns-else-is_built
has_builder-returns-else-is_built g t c =
    builders-below c.args.aggregation.now c.asks_for_builder.result c.if-is_built.ensures
    c.asks_for_builder.ensures
