use Rattle.agg_composite.proofs.VisitsPast.{length-past, tuples_under-past}
use Rattle.agg_composite.proofs.laws.visits_have_the_occurrences.Goals as goal

pub returns-clause-tuples : goal.returns-clause-tuples
returns-clause-tuples c = tuples_under-past

pub returns-clause-count : goal.returns-clause-count
returns-clause-count c = length-past
