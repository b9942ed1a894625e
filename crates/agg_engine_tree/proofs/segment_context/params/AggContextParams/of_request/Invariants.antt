use Rattle.std.proofs.Common.{map, take}
use Rattle.agg_engine_tree.proofs.lemmas.segment_context.Trees.{AreKept}
use Rattle.agg_engine_tree.proofs.segment_context.params.AggContextParams.of_request.Given as goal

-- the trees of the queries so far
abbrev pub invariant-loop-query : goal.invariant-loop-query
invariant-loop-query g l =
    AreKept (λ b. g.B.QueryBuilder.tree_for b l.schema)
    (take l.query-index (map (λ q. q.now) l.query-items)) l.trees
