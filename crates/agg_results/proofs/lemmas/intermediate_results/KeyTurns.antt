-- Two keys the other way round.
use Rattle.std.proofs.Common.{◌≡◌, ap, ◌∙◌, Ordering}
use Rattle.std.specs.Cmp.{IsTotalOrder}
use Rattle.std.specs.Ordering.{ordering_reverse}
use Rattle.agg_values.specs.Tuple.{KeyTuple}

module _ (R : KeyTuple → KeyTuple → Ordering) (total : IsTotalOrder R) where
  -- two keys the other way round
  pub reversed : (k l : KeyTuple) (o : Ordering) → R k l ≡ o → R l k ≡ ordering_reverse o
  reversed k l o is = total.antisymm l k ∙ ap ordering_reverse is
