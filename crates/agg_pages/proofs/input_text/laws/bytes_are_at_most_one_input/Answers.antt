use Rattle.agg_pages.proofs.lemmas.input_text.Inputs.{IsInput-unique}
use Rattle.agg_pages.proofs.input_text.laws.bytes_are_at_most_one_input.Goals as goal

pub returns : goal.returns
returns g c = λ builders name_of. IsInput-unique builders name_of
