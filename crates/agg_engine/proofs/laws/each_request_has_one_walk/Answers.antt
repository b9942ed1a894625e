use Rattle.agg_engine.proofs.OneWalk.{walk-exists, walk-same}
use Rattle.agg_engine.proofs.laws.each_request_has_one_walk.Goals as goal

pub returns-clause-exists : goal.returns-clause-exists
returns-clause-exists g c = λ is_match name query. walk-exists is_match name query

pub returns-clause-unique : goal.returns-clause-unique
returns-clause-unique g c = λ is_match name query. walk-same is_match name query
