use Rattle.std.proofs.Common.{rules}
use Rattle.agg_calendar.proofs.interval.fixed_interval_of.Goals as goal

pub returns-in-Ok-clause-value : goal.returns-in-Ok-clause-value
returns-in-Ok-clause-value c = search rules

pub returns-in-Ok-clause-least : goal.returns-in-Ok-clause-least
returns-in-Ok-clause-least c = search rules
