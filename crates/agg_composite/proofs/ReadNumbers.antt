-- The numbers of a column that aren't below a place.
use Rattle.std.proofs.Common.{ℕ, zero, suc, ◌<◌, ◌^◌, List, [], ◌∷◌, Bool, true, false, cond}
use Rattle.std.proofs.Common.{get_or}
use Rattle.agg_composite.specs.accessor.Least.{is_number_from, numbers_from}
use Rattle.agg_composite.specs.declared.accessor.after_key.PrecomputedAfterKey.{PrecomputedAfterKey}

-- numbers that aren't below a place are within 64 bits where all are
pub fits-from : (place : PrecomputedAfterKey) (numbers : List ℕ)
    → ((j : ℕ) → get_or numbers j 0 < 2 ^ 64)
    → (j : ℕ) → get_or (numbers_from place numbers) j 0 < 2 ^ 64
fits-from place [] fits j = fits j
fits-from place (n ∷ ns) fits j =
    by_test (is_number_from place n) (fits-from place ns (λ k. fits (suc k))) j
  where
    by_test : (b : Bool) → ((k : ℕ) → get_or (numbers_from place ns) k 0 < 2 ^ 64) → (k : ℕ)
        → get_or (cond b (n ∷ numbers_from place ns) (numbers_from place ns)) k 0 < 2 ^ 64
    by_test true others zero = fits 0
    by_test true others (suc k) = others k
    by_test false others k = others k
