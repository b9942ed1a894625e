use Rattle.std.proofs.Common.{rules}
use Rattle.agg_request.proofs.reading.composite.words.order.Goals as goal

pub returns-in_default : goal.returns-in_default
returns-in_default c = search rules
