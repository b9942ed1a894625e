use Rattle.agg_values.specs.KeyOrder.{tuple_order}
use Rattle.agg_values.proofs.NamePlaces.{sorted_removed}
use Rattle.agg_values.proofs.tuple_map.tuple_map.TupleMap.remove.Goals as goal

pub invariant_of-self : goal.invariant_of-self
invariant_of-self g c =
    rw c.remove.ensures.items
    (sorted_removed (tuple_order c.self.inside.orders.items) c.self.inside.entries.items c.args.at
    c.self.invariant)
