use Rattle.agg_calendar.proofs.Starts.{fixed_start-at_most, fixed_start-above, fixed_start-greatest}
use Rattle.agg_calendar.proofs.laws.fixed_starts_are_the_greatest_multiples.Goals as goal

pub returns-clause-at_most : goal.returns-clause-at_most
returns-clause-at_most c = fixed_start-at_most

pub returns-clause-above : goal.returns-clause-above
returns-clause-above c = fixed_start-above

pub returns-clause-greatest : goal.returns-clause-greatest
returns-clause-greatest c = fixed_start-greatest
