-- The limits of a walk.
use Rattle.std.specs.Prelude.{◌≡◌, ◌≤◌, ◌<◌, ◌+◌, ◌-◌, ◌^◌, ℕ, min}
use Rattle.agg_values.specs.declared.request_error.AggregationError.{AggregationError}
use Rattle.agg_values.specs.declared.request_error.AggregationError.TheVariants as error

-- the bytes in use, and the limits for them and for the buckets of a result
pub record Limits : Type 0 where
  pub in_use : ℕ
  pub memory_limit : ℕ
  pub bucket_limit : ℕ

-- a ledger with more bytes in use
abbrev pub charged : ℕ → Limits → Limits
charged bytes limits = record limits { in_use = limits.in_use + bytes }

-- a ledger and a guard have grown by the same bytes, and the limits are kept
pub record Grown (old new : Limits) (guard guard_now : ℕ) : Type 0 where
  pub more : guard ≤ guard_now
  pub same : new.in_use + guard ≡ old.in_use + guard_now
  pub memory_limit : new.memory_limit ≡ old.memory_limit
  pub bucket_limit : new.bucket_limit ≡ old.bucket_limit

-- why bytes are refused: with them more than the limit would be in use, which the error tells, as
-- far as u64 goes
abbrev pub IsExceeded : ℕ → Limits → AggregationError → Type 0
IsExceeded bytes limits (error.MemoryExceeded limit current) =
    (limit ≡ limits.memory_limit) × (limit < limits.in_use + bytes)
    × (current ≡ min (limits.in_use + bytes) (2 ^ 64 - 1))
IsExceeded bytes limits _ = ⊥
