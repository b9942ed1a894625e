use Rattle.std.proofs.Common.{◌≡◌, sym, subst}
use Rattle.std.specs.declared.cmp.Ordering.TheVariants.{Less}
use Rattle.std.specs.List.{All}
use Rattle.std.specs.Map.{keys_of}
use Rattle.agg_values.specs.KeyOrder.{tuple_order}
use Rattle.agg_values.proofs.lemmas.tuple_map.LastTuples.{sorted-last}
use Rattle.agg_values.proofs.tuple_map.tuple_map.TupleMap.push_last.Goals as goal

pub invariant_of-self-2 : goal.invariant_of-self-2
invariant_of-self-2 g c =
    let rules = c.self.inside.orders.items in
    let above : All (λ k. tuple_order rules k c.args.key ≡ Less)
    (keys_of c.self.inside.entries.items)
    = subst (λ m. All (λ k. tuple_order m.0 k c.args.key ≡ Less) (keys_of m.1)) (sym c.self.view_is)
    c.requires in
    rw c.in_ok-push.ensures.items
    (sorted-last (tuple_order rules) c.self.inside.entries.items c.args.key c.args.value
    c.self.invariant above)
