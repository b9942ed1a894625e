use Rattle.std.proofs.Common.{◌+◌, ◌*◌, map}
use Rattle.agg_request_tree.proofs.RequestTrees.{height, levels}
use Rattle.agg_engine_tree.specs.segment_context.Plan.{plan_of, plans_of}
use Rattle.agg_engine_tree.specs.segment_context.Tops.{KnowTop}
use Rattle.agg_engine_tree.proofs.lemmas.segment_context.NodeLists.{AreAddedUpTo}
use Rattle.agg_engine_tree.proofs.segment_context.segment.+nodes.Given as goal

abbrev pub decreases-request_nodes : goal.decreases-request_nodes
decreases-request_nodes g l = 2 * levels l.request.now + 1

abbrev pub decreases-aggregation_node : goal.decreases-aggregation_node
decreases-aggregation_node g l = 2 * height l.aggregation.now

abbrev pub invariant-request_nodes-loop-name : goal.invariant-request_nodes-loop-name
invariant-request_nodes-loop-name g l = record {
  added : AreAddedUpTo l.from l.request l.name-iterator l.nodes l.fn.ctx l.ctx;
  top : KnowTop l.from.is_top_level l.ctx.filter_req_data (plans_of (map plan_of l.nodes));
}
