use Rattle.std.proofs.Common.{rules}
use Rattle.agg_calendar.proofs.IntervalTexts.{after_sign}
use Rattle.agg_calendar.proofs.interval_text.parse_offset_into_milliseconds.Goals as goal

pub returns-in-Ok-clause-value : goal.returns-in-Ok-clause-value
returns-in-Ok-clause-value c = search (rules, after_sign)
