use Rattle.agg_values.proofs.TupleOrder.{tuple_order-total}
use Rattle.agg_values.proofs.laws.tuple_order_is_total.Goals as goal

pub returns : goal.returns
returns c = tuple_order-total
