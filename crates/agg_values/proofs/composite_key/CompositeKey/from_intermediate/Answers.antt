use Rattle.std.proofs.Common.{rules}
use Rattle.agg_values.proofs.composite_key.CompositeKey.from_intermediate.Goals as goal

pub returns-in-DateTime : goal.returns-in-DateTime
returns-in-DateTime c = search rules
