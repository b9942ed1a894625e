use Rattle.std.proofs.Common.{◌≡◌, replicate}
use Rattle.agg_segment.specs.Snapshot.{snapshots_documents}
use Rattle.agg_pages.specs.generator.Documents.{generated_snapshot}
use Rattle.agg_pages.proofs.generator.snapshots.generated_snapshots.Given as goal

-- the snapshots so far
abbrev pub invariant-loop : goal.invariant-loop
invariant-loop l =
    snapshots_documents l.snapshots ≡ replicate l.counter (generated_snapshot l.fn.seed)
