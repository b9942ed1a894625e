-- Counts of keys, one for each distinct key.
use Rattle.std.specs.Prelude.{ℕ, List, [], ◌∷◌}
use Rattle.std.specs.declared.cmp.Ordering.{Ordering}
use Rattle.agg_composite.specs.buckets.Cut.{add_count}

-- the distinct keys of counts, ascending, each with the sum of its counts
abbrev pub counted : {K : Type 0} → (K → K → Ordering) → List (K × ℕ) → List (K × ℕ)
counted R [] = []
counted R (e ∷ es) = add_count R (counted R es) e.0 e.1
