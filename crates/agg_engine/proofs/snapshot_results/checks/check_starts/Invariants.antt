use Rattle.std.proofs.Common.{List, take}
use Rattle.agg_segment.specs.Segment.{Stored}
use Rattle.agg_segment.specs.declared.query.QueryTree.{QueryTree}
use Rattle.agg_request_tree.specs.Ranges.{HasStartOutOfRange}
use Rattle.agg_request_tree.specs.Request.{Request}
use Rattle.agg_engine.specs.snapshot_results.Contexts.{AreContextsOf}
use Rattle.agg_engine.specs.snapshot_results.Documents.{matching_in}
use Rattle.agg_engine.proofs.snapshot_results.checks.check_starts.Given as goal

-- no start in the segments so far is out of range
abbrev pub invariant-loop-context : goal.invariant-loop-context
invariant-loop-context l =
    (request : Request QueryTree) (query : QueryTree) (segments : List Stored)
    → AreContextsOf request query segments l.contexts
    → ¬ (HasStartOutOfRange request (matching_in query (take l.context-index segments)))
