use Rattle.agg_values.proofs.KeyOrder.{key_order-exact}
use Rattle.agg_values.proofs.laws.key_order_is_exact.Goals as goal

pub returns : goal.returns
returns c = key_order-exact
