use Rattle.agg_calendar.proofs.OneStart.{one_start}
use Rattle.agg_calendar.proofs.laws.each_timestamp_has_one_start.Goals as goal

pub returns : goal.returns
returns c = one_start
