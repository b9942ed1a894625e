use Rattle.std.proofs.Common.{map, take, true}
use Rattle.agg_segment.specs.Segment.{documents_at}
use Rattle.agg_segment.specs.declared.query.QueryTree.{QueryTree}
use Rattle.agg_request_tree.specs.Request.{Request, composites_of}
use Rattle.agg_engine_tree.specs.segment_context.Context.{ArePlansOf, IsMeant, Meaning}
use Rattle.agg_engine_tree.specs.segment_context.Plan.{plan_of, plans_of}
use Rattle.agg_engine_tree.specs.uncut.Ranges.{TellsRange}
use Rattle.agg_engine_tree.proofs.uncut.ranges.+ranges.Given as goal

abbrev pub invariant-are_nodes_in_range-loop-node : goal.invariant-are_nodes_in_range-loop-node
invariant-are_nodes_in_range-loop-node l =
    (meaning : Meaning) (request : Request QueryTree) → IsMeant meaning l.ctx
    → ArePlansOf meaning l.ctx request (plans_of (map plan_of l.nodes))
    → TellsRange true (composites_of (take l.node-index request))
    (documents_at meaning.segment l.docs)
