use Rattle.std.proofs.Common.{rules}
use Rattle.agg_composite.proofs.accessor.divisor.counted_number.Goals as goal

pub returns-in-DateTime-clause-counted : goal.returns-in-DateTime-clause-counted
returns-in-DateTime-clause-counted c = search rules
