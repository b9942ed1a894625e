use Rattle.std.proofs.Common.{◌≡◌, Err, sym, subst, arith}
use Rattle.std_collections.specs.Layout.BTreeMap.{seek}
use Rattle.std_collections.proofs.Seek.{seek_err, sorted_insert}
use Rattle.agg_values.specs.KeyOrder.{tuple_order}
use Rattle.agg_values.proofs.TupleOrder.{tuple_order-total}
use Rattle.agg_values.proofs.tuple_map.tuple_map.TupleMap.insert.Goals as goal

pub insert-requires : goal.insert-requires
insert-requires g c =
    let at : seek (tuple_order c.self.inside.orders.items c.args.key) c.self.inside.entries.items
    ≡ Err c.args.at
    = subst (λ m. seek (tuple_order m.0 c.args.key) m.1 ≡ Err c.args.at) (sym c.self.view_is)
    c.requires in
    let within = (seek_err (tuple_order c.self.inside.orders.items c.args.key) _ c.args.at at).0 in
    omega (arith, within, c.self.inside.entries.ok.0)

pub invariant_of-self-2 : goal.invariant_of-self-2
invariant_of-self-2 g c =
    let rules = c.self.inside.orders.items in
    let at : seek (tuple_order rules c.args.key) c.self.inside.entries.items ≡ Err c.args.at
    = subst (λ m. seek (tuple_order m.0 c.args.key) m.1 ≡ Err c.args.at) (sym c.self.view_is)
    c.requires in
    rw c.in_ok-insert.ensures.items
    (sorted_insert (tuple_order rules) c.args.key c.args.value (tuple_order-total rules)
    c.self.inside.entries.items c.args.at c.self.invariant at)
