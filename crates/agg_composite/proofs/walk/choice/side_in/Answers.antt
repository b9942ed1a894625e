use Rattle.std.proofs.Common.{rules}
use Rattle.agg_composite.proofs.walk.choice.side_in.Goals as goal

pub returns-then-equals : goal.returns-then-equals
returns-then-equals c = search rules
