use Rattle.agg_results.proofs.FinalResults.{StandsFor-final}
use Rattle.agg_results.proofs.StandingRefusals.{StandsFor-known, StandsFor-shapes}
use Rattle.agg_results.proofs.laws.final_results_are_those_of_the_documents.Goals as goal

pub returns-clause-results : goal.returns-clause-results
returns-clause-results g c is_match request documents held stand =
    StandsFor-final is_match request documents held stand

pub returns-clause-known : goal.returns-clause-known
returns-clause-known g c is_match request documents held stand =
    StandsFor-known is_match request documents held stand

pub returns-clause-alike : goal.returns-clause-alike
returns-clause-alike g c is_match request documents held stand =
    StandsFor-shapes is_match request documents held stand
