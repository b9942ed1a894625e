use Rattle.std.proofs.Common.{sym}
use Rattle.agg_calendar.proofs.IntervalTexts.{unsigned}
use Rattle.agg_calendar.proofs.interval_text.split_sign.Goals as goal

pub returns-in-None-clause-minus : goal.returns-in-None-clause-minus
returns-in-None-clause-minus c =
    sym (unsigned c.args.text.now c.in_default.ensures.cases c.in-None.ensures.cases).0

pub returns-in-None-clause-rest : goal.returns-in-None-clause-rest
returns-in-None-clause-rest c =
    sym (unsigned c.args.text.now c.in_default.ensures.cases c.in-None.ensures.cases).1
