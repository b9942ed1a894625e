use Rattle.agg_values.proofs.KeyOrder.{key_order-reversed_values, key_order-reversed}
use Rattle.agg_values.proofs.laws.desc_reverses_asc.Goals as goal

pub returns-clause-values : goal.returns-clause-values
returns-clause-values c = key_order-reversed_values

pub returns-clause-by_default : goal.returns-clause-by_default
returns-clause-by_default c = key_order-reversed
