use Rattle.std.proofs.Common.{rules}
use Rattle.agg_values.proofs.number.u64_to_i64.Goals as goal

pub returns-in-Err-clause-exact : goal.returns-in-Err-clause-exact
returns-in-Err-clause-exact c = search rules
