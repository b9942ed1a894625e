use Rattle.std.proofs.Common.{◌<◌, inl, inr, sym, ◌∙◌, arith}
use borrow.Author.Tests.{ltb-true}
use Rattle.agg_values.proofs.SameOrders.{told}
use Rattle.agg_results.specs.intermediate_results.Intermediate.{orders_of, target_size_of}
use Rattle.agg_results.proofs.intermediate_results as intermediate
use intermediate.composite.IntermediateCompositeBucketResult.differs_from.Goals as goal
use goal.{then-self-gt0, else-self-gt0}

pub returns-else-self-other : goal.returns-else-self-other
returns-else-self-other c =
    let held = c.args.self.now in
    let other = c.args.other.now in
    let some : (0 < target_size_of held) × (0 < target_size_of other)
    = elim c.if-self-gt0.branch [
      | then-self-gt0 w ↦
          (w.if-self-gt0.true, ltb-true 0 _ (sym w.value-is ∙ c.if-other-gt0.true))
      | else-self-gt0 w ↦
          absurd (omega (
            arith,
            w.if-self-gt0.false,
            ltb-true 0 _ (sym w.value-is ∙ c.if-other-gt0.true),
          ))
    ] in
    let orders = told (orders_of held) (orders_of other) c.orders.result.now
    c.orders-else-self-other.result.now c.ne.result c.ne.ensures c.orders.ensures
    c.orders-else-self-other.ensures in (
      λ is. (some.0, some.1, inr (orders.0 is)),
      λ differ. elim differ.2 [
        | inl sizes ↦ absurd (sizes c.if-self-other.false)
        | inr differing ↦ orders.1 differing
      ],
    )
