-- Taking the greatest key out of entries where it isn't below another.
use Rattle.std.specs.Prelude.{◌≡◌, ◌-◌, ◌⊎◌, List, [], Some, false, length, slice_get, take}
use Rattle.std.specs.Ordering.{is_lt}
use Rattle.std.specs.declared.cmp.Ordering.{Ordering}
use Rattle.std.specs.declared.cmp.Ordering.TheVariants.{Less}

-- fs are the entries es without the greatest, whose key isn't below k
abbrev pub TakesGreatest : {K X : Type 0} → (K → K → Ordering) → K → List (K × X)
    → List (K × X) → Type 0
TakesGreatest {K} {X} R k es fs =
    (fs ≡ take (length es - 1) es)
    × (e : K × X) × (slice_get es (length es - 1) ≡ Some e) × (is_lt (R e.0 k) ≡ false)

-- there is no entry, or the greatest key is below k
abbrev pub GreatestIsBelow : {K X : Type 0} → (K → K → Ordering) → K → List (K × X) → Type 0
GreatestIsBelow {K} {X} R k es =
    (es ≡ []) ⊎ ((e : K × X) × (slice_get es (length es - 1) ≡ Some e) × (R e.0 k ≡ Less))
