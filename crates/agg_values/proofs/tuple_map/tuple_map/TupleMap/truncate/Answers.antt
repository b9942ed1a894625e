use Rattle.std.proofs.Common.{◌≡◌, take, Less, sym, ap, subst}
use Rattle.std.specs.List.Sorted.{IsStrictlySortedBy}
use Rattle.std.specs.Map.{keys_of}
use Rattle.std_collections.proofs.Pairwise.{from_sorted, to_sorted, Pairwise-take}
use Rattle.agg_values.specs.KeyOrder.{tuple_order}
use Rattle.agg_values.proofs.tuple_map.tuple_map.TupleMap.truncate.Goals as goal

pub invariant_of-self : goal.invariant_of-self
invariant_of-self g c =
    let R = tuple_order c.self.inside.orders.items in
    let es = c.self.inside.entries.items in
    let front : IsStrictlySortedBy R (keys_of (take c.args.len es)) =
    to_sorted R (keys_of (take c.args.len es)) (Pairwise-take (λ x y. R x y ≡ Less) c.args.len es
    (from_sorted R (keys_of es) c.self.invariant)) in
    subst (IsStrictlySortedBy R) (sym (ap keys_of c.truncate.ensures.items)) front
