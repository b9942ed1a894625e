use Rattle.agg_results.proofs.Empties.{StandsFor-empty}
use Rattle.agg_results.proofs.laws.the_empty_result_stands_for_none.Goals as goal

pub returns : goal.returns
returns g c = StandsFor-empty
