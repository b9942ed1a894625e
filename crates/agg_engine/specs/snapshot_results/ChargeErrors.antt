-- The error of a charge, as others say it.
use Rattle.agg_values.specs.declared.request_error.AggregationError.TheVariants as aggregation
use Rattle.agg_cache.specs.declared.error.CollectError.{CollectError}
use Rattle.agg_cache.specs.declared.error.CollectError.TheVariants as collect
use Rattle.agg_engine_tree.specs.declared.segment_context.error.SetupError.{SetupError}
use Rattle.agg_engine_tree.specs.declared.segment_context.error.SetupError.TheVariants as setup
use Rattle.agg_engine.specs.declared.snapshot_results.charge_error.ChargeError.{ChargeError}
use Rattle.agg_engine.specs.declared.snapshot_results.charge_error.ChargeError.TheVariants as charge
use Rattle.agg_engine.specs.declared.snapshot_results.error.SnapshotError.{SnapshotError}
use Rattle.agg_engine.specs.declared.snapshot_results.error.SnapshotError.TheVariants as snapshot

-- the error of a snapshot
abbrev pub snapshot_error : ChargeError → SnapshotError
snapshot_error (charge.MemoryExceeded limit current) = snapshot.MemoryExceeded limit current
snapshot_error charge.OutOfMemory = snapshot.OutOfMemory

-- the error of a collector
abbrev pub collect_error : ChargeError → CollectError
collect_error (charge.MemoryExceeded limit current) =
    collect.Aggregation (aggregation.MemoryExceeded limit current)
collect_error charge.OutOfMemory = collect.OutOfMemory

-- the error of a collector that isn't made
abbrev pub setup_error : ChargeError → SetupError
setup_error (charge.MemoryExceeded limit current) =
    setup.Aggregation (aggregation.MemoryExceeded limit current)
setup_error charge.OutOfMemory = setup.OutOfMemory
