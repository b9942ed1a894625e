use Rattle.agg_engine.proofs.ExactRefusals.{has-from_may, may-from_has}
use Rattle.agg_engine.proofs.laws.settled_snapshots_are_refused_exactly.Goals as goal

pub returns : goal.returns
returns g c is_match limits query request segments why settled = (
  has-from_may is_match limits query request segments settled why,
  may-from_has is_match limits query request segments why,
)
