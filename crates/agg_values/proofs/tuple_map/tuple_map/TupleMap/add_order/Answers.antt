use Rattle.std.proofs.Common.{[], ap, ◌≡◌, ◌∙◌}
use Rattle.std.specs.List.Sorted.{IsStrictlySortedBy}
use Rattle.agg_values.proofs.tuple_map.tuple_map.TupleMap.add_order.Goals as goal

pub invariant_of-self-2 : goal.invariant_of-self-2
unfolding IsStrictlySortedBy
invariant_of-self-2 g c =
    let none : c.self.inside.entries.items ≡ [] = ap (λ m. m.1) c.self.view_is ∙ c.requires.empty in
    rw none tt
