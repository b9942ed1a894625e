use Rattle.agg_calendar.proofs.OffsetGrammar.{offset_is}
use Rattle.agg_calendar.proofs.laws.offset_texts_are_interval_texts_with_a_sign.Goals as goal

pub returns : goal.returns
returns c = offset_is
