use Rattle.std.proofs.Common.{◌≡◌, IsTrue, Ordering, Less, Equal, Greater, refl, sym, subst}
use Rattle.std.specs.Ordering.{is_lt}
use Rattle.std.proofs.lemmas.Bool.{false≢true}
use Rattle.agg_values.specs.KeyOrder.{tuple_order}
use Rattle.agg_values.proofs.TupleOrder.{tuple_order-total}
use Rattle.agg_results.proofs.lemmas.intermediate_results.BelowLists.{below_by_ends}
use Rattle.agg_values.proofs.lemmas.tuple_map.TupleSteps.{compared}
use Rattle.agg_results.proofs.intermediate_results.merging.is_below.Goals as goal

lower : (o : Ordering) → IsTrue (is_lt o) → o ≡ Less
lower Less is = refl
lower Equal is = absurd (false≢true is)
lower Greater is = absurd (false≢true is)

pub returns : goal.returns
returns c = λ less.
    let rules = c.args.orders.now in
    below_by_ends (tuple_order rules) (tuple_order-total rules) c.args.lower.now c.args.upper.now
    c.in-Some.last.now c.in-Some-first.first.now c.requires.ascending c.requires.other_ascending
    (sym c.in-Some.ensures.value) (sym c.in-Some-first.ensures.value)
    (compared rules _ _ _ _ _ Less c.tuple_ordering.ensures c.as_slice.ensures
    c.as_slice-2.ensures (lower c.tuple_ordering.result (subst IsTrue c.is_lt.ensures less)))
