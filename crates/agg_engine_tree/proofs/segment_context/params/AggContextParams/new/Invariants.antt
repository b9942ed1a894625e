use Rattle.std.proofs.Common.{map, take}
use Rattle.agg_engine_tree.proofs.lemmas.segment_context.Trees.{AreKept}
use Rattle.agg_engine_tree.proofs.segment_context.params.AggContextParams.new.Given as goal

-- the trees of the queries so far
abbrev pub invariant-loop-query : goal.invariant-loop-query
invariant-loop-query g l =
    AreKept
    (λ b. (goal.QueryBuilder-dyn g (b.builder.vtable, b.builder.value)).tree_for b.builder.value
    l.schema) (take l.query-index (map (λ q. q.now) l.query-items)) l.trees
