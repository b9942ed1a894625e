use Rattle.std.proofs.Common.{◌++◌}
use Rattle.agg_results.proofs.AddedNumbers.{adds-small}
use Rattle.agg_results.proofs.PassingResults.{StandsFor-few}
use Rattle.agg_results.proofs.StandingResults.{StandsFor-alike, StandsFor-joined}
use Rattle.agg_results.proofs.laws.merging_joins_the_documents.Goals as goal

pub returns-clause-alike : goal.returns-clause-alike
returns-clause-alike g c = λ is_match request documents others held more a b.
    StandsFor-alike is_match request documents others held more a b

pub returns-clause-few : goal.returns-clause-few
returns-clause-few g c is_match request documents others held more small =
    StandsFor-few is_match request documents others held more
    (adds-small request (documents ++ others) small)

pub returns-clause-joined : goal.returns-clause-joined
returns-clause-joined g c = λ is_match request documents others held more whole a b.
    StandsFor-joined is_match request documents others held more a b whole
