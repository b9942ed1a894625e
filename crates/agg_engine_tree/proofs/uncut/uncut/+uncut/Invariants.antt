use Rattle.std.proofs.Common.{map, take}
use Rattle.agg_segment.specs.Query.{matches}
use Rattle.agg_segment.specs.declared.query.QueryTree.{QueryTree}
use Rattle.agg_request_tree.specs.Request.{Request}
use Rattle.agg_request_tree.specs.Uncut.{uncut_lists_of}
use Rattle.agg_engine_tree.specs.segment_context.Context.{ArePlansOf, Meaning}
use Rattle.agg_engine_tree.specs.segment_context.Plan.{plan_of, plans_of}
use Rattle.agg_engine_tree.specs.uncut.Block.{AddsFor, IsGiven}
use Rattle.agg_engine_tree.proofs.uncut.uncut.+uncut.Given as goal

abbrev pub invariant-add_nodes-loop-node : goal.invariant-add_nodes-loop-node
invariant-add_nodes-loop-node l =
    (meaning : Meaning) (request : Request QueryTree) → IsGiven meaning l.block
    → ArePlansOf meaning l.block.ctx.now request (plans_of (map plan_of l.nodes))
    → AddsFor (uncut_lists_of matches (take l.node-index request)) l.block l.weights
    l.fn.counts.items l.counts.items
