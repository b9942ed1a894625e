use Rattle.std.proofs.Common.{◌≡◌, ◌+◌, List, take}
use Rattle.agg_segment.specs.Segment.{Stored}
use Rattle.agg_segment.specs.declared.query.QueryTree.{QueryTree}
use Rattle.agg_request_tree.specs.Request.{Request}
use Rattle.agg_engine_tree.specs.uncut.Uncut as uncut
use Rattle.agg_engine.specs.snapshot_results.Contexts.{AreContextsOf}
use Rattle.agg_engine.specs.snapshot_results.Documents.{matching_in}
use Rattle.agg_engine.proofs.snapshot_results.checks.check_counts.Given as goal

-- the counts of the segments so far
abbrev pub invariant-loop-context : goal.invariant-loop-context
invariant-loop-context l =
    (request : Request QueryTree) (query : QueryTree) (segments : List Stored)
    → AreContextsOf request query segments l.contexts
    → l.counts
    ≡ uncut.uncut_lengths request (matching_in query (take (l.context-index + 1) segments))
