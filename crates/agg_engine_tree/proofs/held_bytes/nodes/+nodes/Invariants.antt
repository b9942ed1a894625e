use Rattle.std.proofs.Common.{◌≡◌, length, take}
use Rattle.agg_segment.specs.Segment.{documents_of}
use Rattle.agg_segment.specs.declared.query.QueryTree.{QueryTree}
use Rattle.agg_request_tree.specs.Request.{Request}
use Rattle.agg_request_tree.specs.charges.Charges.{fixed_charge}
use Rattle.agg_engine_tree.specs.segment_context.Context.{Meaning}
use Rattle.agg_engine_tree.specs.held_bytes.Nodes.{AreNodesOf}
use Rattle.agg_engine_tree.proofs.held_bytes.nodes.+nodes.Given as goal

-- the charges of the nodes so far
abbrev pub invariant-charge_of_nodes-loop-node : goal.invariant-charge_of_nodes-loop-node
invariant-charge_of_nodes-loop-node l =
    (meaning : Meaning) (request : Request QueryTree)
    → AreNodesOf meaning l.ctx request l.nodes
    → l.bytes ≡ fixed_charge (take l.node-index request) (length (documents_of meaning.segment))
