-- How often each tuple stands in a list, and the lowest of these counts.
use Rattle.std.specs.Prelude.{◌==◌, ◌+◌, ℕ, List, [], ◌∷◌, flat_map, if◌then◌else◌, map, replicate}
use Rattle.std.specs.Prelude.{take}
use Rattle.std.specs.Ordering.{match_ordering}
use Rattle.std.specs.declared.cmp.Ordering.{Ordering}
use Rattle.agg_composite.specs.buckets.Page.{Page}
use Rattle.agg_composite.specs.buckets.Visits.{Visit}

-- each tuple as often as the counts say
abbrev pub spread : {S : Type 0} → List (S × ℕ) → List S
spread counts = flat_map (λ e. replicate e.1 e.0) counts

-- the tuples of the visits under a parent
abbrev pub tuples_under : {S : Type 0} → ℕ → List (Visit S) → List S
tuples_under p visits = flat_map (λ v. if p == v.0.0 then v.0.1 ∷ [] else []) visits

-- the tuples of a page, each with the count of its bucket
abbrev pub counts_of : {S : Type 0} → Page S → List (S × ℕ)
counts_of page = map (λ e. (e.0, e.1.count)) page

-- ascending counts, with so many more of a key
abbrev pub add_count : {K : Type 0} → (K → K → Ordering) → List (K × ℕ) → K → ℕ → List (K × ℕ)
add_count R [] k n = (k, n) ∷ []
add_count R (e ∷ counts) k n =
    match_ordering (R k e.0)
    ((k, n) ∷ e ∷ counts) ((e.0, e.1 + n) ∷ counts) (e ∷ add_count R counts k n)

module _ {S : Type 0} (R : S → S → Ordering) where
  -- counts, with each tuple of a list counted once more
  abbrev pub count_each : List (S × ℕ) → List S → List (S × ℕ)
  count_each counts [] = counts
  count_each counts (t ∷ ts) = count_each (add_count R counts t 1) ts

  -- the distinct tuples of a list, ascending, each with the number of its places
  abbrev pub groups_of : List S → List (S × ℕ)
  groups_of ts = count_each [] ts

  -- the lowest of them, so many at most
  abbrev pub cut : ℕ → List S → List (S × ℕ)
  cut size ts = take size (groups_of ts)
