use Rattle.std.proofs.Common.{rules}
use Rattle.agg_values.proofs.order.null_place.Goals as goal

pub returns-in-Null : goal.returns-in-Null
returns-in-Null c = search rules
