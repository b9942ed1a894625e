use Rattle.std.proofs.Common.{rules}
use Rattle.std.specs.Cmp.Lexicographic.{pointwise_decides}
use Rattle.agg_values.proofs.laws.equality_is_sameness.Goals as goal

pub returns-clause-tuples : goal.returns-clause-tuples
returns-clause-tuples c x y = pointwise_decides (search rules) x y
