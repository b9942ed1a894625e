use Rattle.peslumok_front.proofs.lemmas.grouping.AskedSources.{called-as_column}
use Rattle.peslumok_front.proofs.grouping.laws.sources_are_called_as_their_columns.Goals as goal

pub returns : goal.returns
returns c types by source is = called-as_column types by source is
