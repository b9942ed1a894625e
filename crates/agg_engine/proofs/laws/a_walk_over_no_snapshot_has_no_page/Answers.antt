use Rattle.std.proofs.Common.{refl}
use Rattle.agg_engine.proofs.OneWalk.{walk-nothing}
use Rattle.agg_engine.proofs.laws.a_walk_over_no_snapshot_has_no_page.Goals as goal

pub returns-clause-walk : goal.returns-clause-walk
returns-clause-walk g c is_match name query request = refl

pub returns-clause-only : goal.returns-clause-only
returns-clause-only g c = λ is_match name query. walk-nothing is_match name query
