use Rattle.agg_results.specs.intermediate_results.Empty.{empty_results}
use Rattle.agg_results.proofs.Empties.{StandsFor-empty}
use Rattle.agg_results.proofs.MergedFinals.{final-associative, final-commutative, final-neutral}
use Rattle.agg_results.proofs.laws.merging_in_any_order_is_final_alike.Goals as goal

pub returns-clause-neutral : goal.returns-clause-neutral
returns-clause-neutral g c is_match request documents held whole up =
    final-neutral is_match request documents (empty_results request) held whole
    (StandsFor-empty is_match request up)

pub returns-clause-commutative : goal.returns-clause-commutative
returns-clause-commutative g c = final-commutative

pub returns-clause-associative : goal.returns-clause-associative
returns-clause-associative g c = final-associative
