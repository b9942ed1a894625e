use Rattle.std.proofs.Common.{◌≤◌, ◌⊎◌, length, inl, inr, rules, ◌∙◌}
use Rattle.agg_values.proofs.lemmas.tuple_map.TupleSteps.{tuple_order-ended}
use Rattle.agg_values.proofs.tuple_map.tuple_order.tuple_ordering.Goals as goal
use goal.{in_default-via-in-Some+in_default, in_default-via-in_default}

pub returns-in_default : goal.returns-in_default
returns-in_default c =
    let ended : (length c.args.left.now ≤ c.loop-i.i) ⊎ (length c.args.right.now ≤ c.loop-i.i) =
    elim c.in_default.branch [
      | in_default-via-in-Some+in_default w ↦ inr (search rules)
      | in_default-via-in_default w ↦ inl (search rules)
    ] in
    c.cmp.ensures
    ∙ tuple_order-ended c.args.orders.now c.args.left.now c.args.right.now c.loop-i.i
    c.loop-i-test.true c.loop-i.invariant.left_lasts c.loop-i.invariant.right_lasts ended
    ∙ c.loop-i.invariant.rest
