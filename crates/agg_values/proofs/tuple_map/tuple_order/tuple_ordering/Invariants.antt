use Rattle.std.proofs.Common.{◌≡◌, ◌≤◌, length, drop}
use Rattle.agg_values.specs.KeyOrder.{tuple_order}
use Rattle.agg_values.proofs.tuple_map.tuple_order.tuple_ordering.Given as goal

-- the keys so far are equal, so the others decide
abbrev pub invariant-loop-i : goal.invariant-loop-i
invariant-loop-i l = record {
  left_lasts : l.i ≤ length l.left;
  right_lasts : l.i ≤ length l.right;
  rest : tuple_order (drop l.i l.orders) (drop l.i l.left) (drop l.i l.right)
      ≡ tuple_order l.orders l.left l.right;
}
