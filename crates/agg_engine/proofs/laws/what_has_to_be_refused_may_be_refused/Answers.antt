use Rattle.agg_engine.proofs.ExactRefusals.{may-from_has, may_refuse}
use Rattle.agg_engine.proofs.laws.what_has_to_be_refused_may_be_refused.Goals as goal

pub returns-clause-segments : goal.returns-clause-segments
returns-clause-segments g c = may-from_has

pub returns-clause-walk : goal.returns-clause-walk
returns-clause-walk g c = may_refuse
