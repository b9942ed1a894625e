use Rattle.std.proofs.Common.{◌≡◌, ◌≤◌, drop}
use Rattle.agg_request_tree.specs.Matching.{built_matches}
use Rattle.agg_request_tree.specs.declared.aggregation.CompositeAggregation.{CompositeAggregation}
use Rattle.agg_request_tree.specs.BuiltRequest.{built_tree}
use Rattle.agg_request_tree.specs.ChangedRequest.{request_after}
use Rattle.agg_engine_tree.specs.segment_context.Trees.{AreTreesOf}
use Rattle.agg_segment.specs.Snapshot.{snapshots_documents}
use Rattle.agg_engine.proofs.StepsTaken.{IsCounting}
use Rattle.agg_engine.proofs.WalkLoop.{IsWalking}
use Rattle.agg_engine.proofs.walk.walk_pages.Given as goal

-- the pages so far are those of the walk, which goes on from the after key, there are as many steps
-- as they allow, the trees are those of the request, and whatever was charged is given back
abbrev pub invariant-loop-snapshot : goal.invariant-loop-snapshot
invariant-loop-snapshot g l = record {
  walking : (composite : CompositeAggregation) × IsWalking (built_matches (λ b.
      (goal.QueryBuilder-dyn g (b.builder.vtable, b.builder.value)).tree_for
      b.builder.value l.schema)) l.initial.limits l.name l.query l.request
      (snapshots_documents l.snapshots) composite
      l.after (snapshots_documents (drop l.snapshot-index l.snapshots)) l.pages;
  counting : IsCounting (built_matches (λ b.
      (goal.QueryBuilder-dyn g (b.builder.vtable, b.builder.value)).tree_for
      b.builder.value l.schema)) l.name l.query l.request (snapshots_documents l.snapshots)
      (request_after l.name l.after l.request)
      (snapshots_documents (drop l.snapshot-index l.snapshots)) l.pages l.snapshot-index
      l.initial.steps l.steps;
  trees : AreTreesOf (built_tree (λ b.
      (goal.QueryBuilder-dyn g (b.builder.vtable, b.builder.value)).tree_for
      b.builder.value l.schema)) l.request l.params.trees;
  kept : l.limits ≡ l.initial.limits;
  later : l.initial.steps ≤ l.steps;
}
