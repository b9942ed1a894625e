use Rattle.agg_request_tree.proofs.lemmas.charges.Roofs.{low-at_most, low-fixed, low-settled}
use Rattle.agg_request_tree.proofs.charges.laws.low_roofs_are_at_most_roofs.Goals as goal

pub returns-clause-fixed : goal.returns-clause-fixed
returns-clause-fixed g c = low-fixed

pub returns-clause-lower : goal.returns-clause-lower
returns-clause-lower g c = low-at_most

pub returns-clause-settled : goal.returns-clause-settled
returns-clause-settled g c = low-settled
