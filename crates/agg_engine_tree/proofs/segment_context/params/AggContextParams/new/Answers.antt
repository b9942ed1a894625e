use Rattle.std.proofs.Common.{ap, map, ◌∙◌}
use Rattle.agg_request_tree.specs.BuiltRequest.{built_tree}
use Rattle.agg_engine_tree.proofs.lemmas.segment_context.Trees.{kept-all, kept-more, makes-all}
use Rattle.agg_engine_tree.proofs.lemmas.segment_context.Trees.{none-among}
use Rattle.agg_engine_tree.proofs.segment_context.params.AggContextParams.new.Goals as goal

pub loop-query-preserved : goal.loop-query-preserved
loop-query-preserved g c =
    kept-more
    (λ b. (goal.QueryBuilder-dyn g (b.builder.vtable, b.builder.value)).tree_for b.builder.value
    c.args.schema.now)
    c.as_slice-query-items.result.now c.args.request.now
    (ap (λ qs. map (λ q. q.now) qs) c.as_slice-query-items.ensures
    ∙ c.in_ok-filter_queries.ensures) c.loop-query.query-index c.query-item.result
    c.loop-query.trees c.push.new.self c.in_ok-named_tree.field-0 c.loop-query.invariant
    c.loop-query-test.true c.query-item.is c.in_ok-named_tree.ensures.tree
    c.in_ok-named_tree.ensures.each
    c.in_ok-push.ensures.ok

pub returns-in_err-named_tree-clause-none : goal.returns-in_err-named_tree-clause-none
returns-in_err-named_tree-clause-none g c =
    none-among
    (λ b. (goal.QueryBuilder-dyn g (b.builder.vtable, b.builder.value)).tree_for b.builder.value
    c.args.schema.now)
    c.as_slice-query-items.result.now c.args.request.now
    (ap (λ qs. map (λ q. q.now) qs) c.as_slice-query-items.ensures
    ∙ c.in_ok-filter_queries.ensures) c.loop-query.query-index c.query-item.result
    c.in_err-named_tree.field-0.0 c.from_residual-in_err-named_tree.result c.loop-query-test.true
    c.query-item.is c.in_err-named_tree.ensures.none c.from_residual-in_err-named_tree.ensures.1

pub returns-clause-trees : goal.returns-clause-trees
returns-clause-trees g c =
    kept-all
    (λ b. (goal.QueryBuilder-dyn g (b.builder.vtable, b.builder.value)).tree_for b.builder.value
    c.args.schema.now)
    c.as_slice-query-items.result.now c.args.request.now
    (ap (λ qs. map (λ q. q.now) qs) c.as_slice-query-items.ensures
    ∙ c.in_ok-filter_queries.ensures) c.loop-query.query-index c.loop-query.trees
    c.loop-query.invariant c.loop-query-test.false

pub returns-clause-each : goal.returns-clause-each
returns-clause-each g c =
    makes-all
    (λ b. (goal.QueryBuilder-dyn g (b.builder.vtable, b.builder.value)).tree_for b.builder.value
    c.args.schema.now)
    c.as_slice-query-items.result.now c.args.request.now
    (ap (λ qs. map (λ q. q.now) qs) c.as_slice-query-items.ensures
    ∙ c.in_ok-filter_queries.ensures) c.loop-query.query-index c.loop-query.trees
    c.loop-query.invariant c.loop-query-test.false

pub returns-clause-of : goal.returns-clause-of
returns-clause-of g c = (
  built_tree
      (λ b. (goal.QueryBuilder-dyn g (b.builder.vtable, b.builder.value)).tree_for b.builder.value
      c.args.schema.now),
  kept-all
      (λ b. (goal.QueryBuilder-dyn g (b.builder.vtable, b.builder.value)).tree_for b.builder.value
      c.args.schema.now)
      c.as_slice-query-items.result.now c.args.request.now
      (ap (λ qs. map (λ q. q.now) qs) c.as_slice-query-items.ensures
      ∙ c.in_ok-filter_queries.ensures) c.loop-query.query-index c.loop-query.trees
      c.loop-query.invariant c.loop-query-test.false,
)
