use Rattle.std.proofs.Common.{sym, subst}
use Rattle.std.specs.List.Sorted.{IsStrictlySortedBy}
use Rattle.std.specs.Map.{keys_of}
use Rattle.agg_values.specs.Names.{name_cmp}
use Rattle.agg_values.proofs.name_map.NameMap.with_capacity.Goals as goal

pub invariant_of-result : goal.invariant_of-result
unfolding IsStrictlySortedBy
invariant_of-result g c =
    subst (λ es. IsStrictlySortedBy name_cmp (keys_of es))
    (sym c.in_ok-with_capacity.ensures.items) tt
