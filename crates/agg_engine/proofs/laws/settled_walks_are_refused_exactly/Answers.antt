use Rattle.agg_engine.proofs.ExactRefusals.{has_to_refuse, may_refuse}
use Rattle.agg_engine.proofs.laws.settled_walks_are_refused_exactly.Goals as goal

pub returns : goal.returns
returns g c is_match limits name query request snapshots why settled = (
  has_to_refuse is_match limits name query request snapshots why settled,
  may_refuse is_match limits name query request snapshots why,
)
