use Rattle.agg_engine_tree.proofs.lemmas.segment_context.Trees.{none-refused}
use Rattle.agg_engine_tree.proofs.segment_context.params.trees.named_tree.Goals as goal

pub returns-in_err-named_query-in-CustomBuilder-clause-none :
    goal.returns-in_err-named_query-in-CustomBuilder-clause-none
returns-in_err-named_query-in-CustomBuilder-clause-none g c =
    none-refused
    (λ b. (goal.QueryBuilder-dyn g (b.builder.vtable, b.builder.value)).tree_for b.builder.value
    c.args.schema.now) c.args.query.now c.in-CustomBuilder.builder
    c.in_err-named_query-in-CustomBuilder.field-0.0
    c.from_residual-in_err-named_query-in-CustomBuilder.result c.in-CustomBuilder.is
    c.in_err-named_query-in-CustomBuilder.ensures.none
    c.from_residual-in_err-named_query-in-CustomBuilder.ensures.1
