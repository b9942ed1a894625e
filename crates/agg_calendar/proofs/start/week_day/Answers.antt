use Rattle.std.proofs.Common.{rules}
use Rattle.agg_calendar.proofs.start.week_day.Goals as goal

pub returns : goal.returns
returns c = search rules
