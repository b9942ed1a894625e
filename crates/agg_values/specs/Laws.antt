-- Laws of orders.
use Rattle.std.specs.Prelude.{◌≡◌, Bool, length}
use Rattle.std.specs.Bool.{Decides}
use Rattle.std.specs.List.{All}
use Rattle.std.specs.declared.cmp.Ordering.{Ordering}
use Rattle.std.specs.declared.cmp.Ordering.TheVariants.{Equal}
use Rattle.std.specs.Ordering.{ordering_reverse}
use Rattle.agg_values.specs.KeyOrder.{SourceRules}
use Rattle.agg_values.specs.Tuple.{KeyTuple}
use Rattle.agg_values.specs.TypedKey.{IsCanonical}

-- among the values that P holds of, Equal is answered only for the same value
abbrev pub IsExactOn : {K : Type 0} → (K → Type 0) → (K → K → Ordering) → Type 0
IsExactOn {K} P cmp = (x y : K) → P x → P y → cmp x y ≡ Equal → x ≡ y

-- among the values that P holds of, an order answers the reverse of another
abbrev pub IsReverseOn :
    {K : Type 0} → (K → Type 0) → (K → K → Ordering) → (K → K → Ordering) → Type 0
IsReverseOn {K} P cmp of = (x y : K) → P x → P y → cmp x y ≡ ordering_reverse (of x y)

-- a tuple of canonical keys, one for each rule
abbrev pub IsCanonicalTuple : SourceRules → KeyTuple → Type 0
IsCanonicalTuple rules keys = (length keys ≡ length rules) × All IsCanonical keys

-- a test answers true exactly for the same value
abbrev pub IsSameness : {K : Type 0} → (K → K → Bool) → Type 0
IsSameness {K} eq = (x y : K) → Decides (eq x y) (x ≡ y)
