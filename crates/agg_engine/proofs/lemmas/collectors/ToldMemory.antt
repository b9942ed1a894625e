-- What an error tells of memory that is exceeded.
use Rattle.std.proofs.Common.{◌≤◌, ℕ, arith}
use Rattle.agg_engine.specs.snapshot_results.MemoryLimits.{TellsMemory}

-- it tells so where the bytes are at most more
pub tells-more : (limit most more given_up told current : ℕ) → most ≤ more
    → TellsMemory limit most given_up told current → TellsMemory limit more given_up told current
tells-more limit most more given_up told current low tells = record {
  is_limit = tells.is_limit;
  sum = tells.sum;
  above = tells.above;
  within = omega (arith, low, tells.within);
  is_sum = tells.is_sum;
}
