use Rattle.agg_values.proofs.TupleOrder.{tuple_order-exact}
use Rattle.agg_values.proofs.laws.tuple_order_is_exact.Goals as goal

pub returns : goal.returns
returns c = tuple_order-exact
