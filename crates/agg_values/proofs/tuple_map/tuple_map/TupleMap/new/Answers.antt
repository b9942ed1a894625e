use Rattle.std.specs.List.Sorted.{IsStrictlySortedBy}
use Rattle.agg_values.proofs.tuple_map.tuple_map.TupleMap.new.Goals as goal

pub invariant_of-result : goal.invariant_of-result
unfolding IsStrictlySortedBy
invariant_of-result g c = rw c.new-2.ensures.items tt
