use Rattle.peslumok_front.proofs.lemmas.grouping.NoBuilders.{request-alike, request-none}
use Rattle.peslumok_front.proofs.grouping.laws.groupings_have_no_builders.Goals as goal

pub returns-clause-none : goal.returns-clause-none
returns-clause-none g c = request-none

pub returns-clause-same : goal.returns-clause-same
returns-clause-same g c grouping page request makes others is =
    request-alike makes others grouping page request is
