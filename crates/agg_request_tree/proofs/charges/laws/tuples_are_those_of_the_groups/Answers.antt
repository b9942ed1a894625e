use Rattle.agg_request_tree.proofs.lemmas.charges.CompositeTuples.{tuples-many, tuples-sums}
use Rattle.agg_request_tree.proofs.charges.laws.tuples_are_those_of_the_groups.Goals as goal

pub returns-clause-many : goal.returns-clause-many
returns-clause-many c = tuples-many

pub returns-clause-sums : goal.returns-clause-sums
returns-clause-sums c = tuples-sums
