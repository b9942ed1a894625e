use Rattle.std.proofs.Common.{map, ◌+◌, ◌*◌}
use Rattle.agg_request_tree.proofs.RequestTrees.{height, levels}
use Rattle.agg_engine_tree.proofs.lemmas.segment_context.Queries.{AreGatheredUpTo}
use Rattle.agg_engine_tree.proofs.segment_context.params.queries.+queries.Given as goal

abbrev pub decreases-add_queries : goal.decreases-add_queries
decreases-add_queries g l = 2 * levels l.request.now + 1

abbrev pub decreases-add_queries_in : goal.decreases-add_queries_in
decreases-add_queries_in g l = 2 * height l.aggregation.now

abbrev pub invariant-add_queries-loop-aggregation : goal.invariant-add_queries-loop-aggregation
invariant-add_queries-loop-aggregation g l =
    AreGatheredUpTo l.request l.aggregation-iterator (map (λ q. q.now) l.fn.queries)
    (map (λ q. q.now) l.queries)
