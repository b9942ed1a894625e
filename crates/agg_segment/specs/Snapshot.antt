-- What snapshots in memory stand for.
use Rattle.std.specs.Prelude.{List, map}
use Rattle.agg_segment.specs.Segment.{documents_of}
use Rattle.agg_segment.specs.SnapshotDocuments.{SnapshotDocuments}
use Rattle.agg_segment.specs.declared.snapshot.Snapshot.{Snapshot}

-- what a snapshot stands for
abbrev pub snapshot_documents : Snapshot → SnapshotDocuments
snapshot_documents snapshot =
    record { segments = map documents_of snapshot.segments; page_size = snapshot.page_size }

-- what snapshots stand for
abbrev pub snapshots_documents : List Snapshot → List SnapshotDocuments
snapshots_documents snapshots = map snapshot_documents snapshots
