use Rattle.std.proofs.Common.{take}
use Rattle.agg_engine_tree.proofs.lemmas.segment_context.Views.{AreShown}
use Rattle.agg_engine_tree.proofs.segment_context.context.PerRequestAggSegCtx.+views.Given as goal

-- the views of the nodes so far
abbrev pub invariant-view_nodes-loop-node : goal.invariant-view_nodes-loop-node
invariant-view_nodes-loop-node l = AreShown l.self (take l.node-index l.nodes) l.views
