-- Ledgers of the same numbers.
use Rattle.std.proofs.Common.{◌≡◌}
use Rattle.agg_cache.specs.Limits.{Limits}

-- ledgers with as much in use and with the same limits are the same
pub same-limits : (limits limits_now : Limits) → limits_now.in_use ≡ limits.in_use
    → limits_now.memory_limit ≡ limits.memory_limit
    → limits_now.bucket_limit ≡ limits.bucket_limit → limits_now ≡ limits
same-limits limits limits_now in_use memory buckets = λ i. record {
  in_use = in_use i;
  memory_limit = memory i;
  bucket_limit = buckets i;
}
