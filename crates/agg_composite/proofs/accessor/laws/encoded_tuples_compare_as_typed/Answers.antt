use Rattle.agg_composite.proofs.lemmas.accessor.TypedOrder.{tuples_compare, tuples_exact}
use Rattle.agg_composite.proofs.accessor.laws.encoded_tuples_compare_as_typed.Goals as goal

pub returns-clause-compared : goal.returns-clause-compared
returns-clause-compared c = tuples_compare

pub returns-clause-exact : goal.returns-clause-exact
returns-clause-exact c = tuples_exact
