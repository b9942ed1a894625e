use Rattle.std.proofs.Common.{map}
use Rattle.std.proofs.lemmas.Result.{on_ok_weaker}
use Rattle.agg_engine_tree.proofs.lemmas.segment_context.Queries.{queries-out}
use Rattle.agg_engine_tree.proofs.segment_context.params.queries.+queries.Goals as goal

pub add_queries_in-returns : goal.add_queries_in-returns
add_queries_in-returns g t c =
    on_ok_weaker c.add_queries.result
    (queries-out c.args.aggregation.now (map (λ q. q.now) c.args.queries.now)
    (map (λ q. q.now) c.add_own_query.new.queries) (map (λ q. q.now) c.add_queries.new.queries)
    c.in_ok-add_own_query.ensures) c.add_queries.ensures
