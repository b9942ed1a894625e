use Rattle.std.proofs.Common.{rules}
use Rattle.agg_composite.proofs.accessor.encoded.Encoded.at.Goals as goal

pub returns : goal.returns
returns c = search rules
