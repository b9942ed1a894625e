-- When collectors have handed on all that is below their buckets.
use Rattle.std.specs.Prelude.{◌≡◌, ℕ, Bool, true, List, []}
use Rattle.agg_filter.specs.Filter.{Filter, FilterFor}

-- a collector is right for its visits, and handed all their documents on
abbrev pub HasHanded : {C : Type 0} → (C → ℕ → List ℕ) → (ℕ → Bool) → Filter C → List (ℕ × ℕ)
    → List (ℕ × ℕ) → Type 0
HasHanded waiting is_match collector visited given =
    FilterFor waiting is_match collector visited given × (collector.hands_on ≡ true)
    × ((id : ℕ) → waiting collector.cache.0 id ≡ [])
