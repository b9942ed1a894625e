use Rattle.agg_values.proofs.KeyOrder.{key_order-total}
use Rattle.agg_values.proofs.laws.key_order_is_total.Goals as goal

pub returns : goal.returns
returns c = key_order-total
