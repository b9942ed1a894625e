use Rattle.agg_calendar.proofs.Starts.{start_of-at_most, start_of-ascends}
use Rattle.agg_calendar.proofs.laws.starts_ascend_with_their_values.Goals as goal

pub returns-clause-at_most : goal.returns-clause-at_most
returns-clause-at_most c = start_of-at_most

pub returns-clause-ascending : goal.returns-clause-ascending
returns-clause-ascending c = start_of-ascends
