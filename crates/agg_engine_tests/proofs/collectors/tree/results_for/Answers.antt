use Rattle.agg_engine_tree.specs.collector_tree.Tree.{held_of}
use Rattle.agg_engine_tests.proofs.lemmas.collectors.TakingTrees.{tree-adds}
use Rattle.agg_engine_tests.proofs.collectors.tree.results_for.Goals as goal

pub add_intermediate_aggregation_result-requires :
    goal.add_intermediate_aggregation_result-requires
add_intermediate_aggregation_result-requires c =
    rw c.new-results.ensures
    (tree-adds c.args.agg_data.now.per_request (held_of c.args.tree.now) c.requires.tree
    c.requires.flushed)
