use Rattle.std.proofs.Common.{take}
use Rattle.agg_segment.specs.declared.query.QueryTree.{QueryTree as Tree}
use Rattle.agg_request_tree.specs.Request.{Request}
use Rattle.agg_engine.specs.snapshot_results.Asked.{IsAsked}
use Rattle.agg_engine.specs.snapshot_results.Contexts.{AreContextsOf}
use Rattle.agg_engine.proofs.snapshot_results.context.segment_contexts.Given as goal

-- the contexts of the segments so far
abbrev pub invariant-loop-segment : goal.invariant-loop-segment
invariant-loop-segment g l =
    (request : Request Tree) → IsAsked l.page request
    → AreContextsOf request l.page.query.now (take l.segment-index l.segments) l.contexts
