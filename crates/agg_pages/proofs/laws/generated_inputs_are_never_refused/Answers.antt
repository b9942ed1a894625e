use Rattle.agg_pages.proofs.GeneratedInputs.{generated-never-refused}
use Rattle.agg_pages.proofs.laws.generated_inputs_are_never_refused.Goals as goal

pub returns : goal.returns
returns g c = generated-never-refused
