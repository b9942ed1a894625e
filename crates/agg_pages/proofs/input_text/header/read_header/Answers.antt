use Rattle.serde_json.specs.View.{view}
use Rattle.agg_pages.proofs.lemmas.input_text.Headers.{no_header}
use Rattle.agg_pages.proofs.input_text.header.read_header.Goals as goal

pub returns-clause-not_input : goal.returns-clause-not_input
returns-clause-not_input g c = λ refused.
    no_header c.args.builders.items g.B.HasName.name_of c.args.line.now (view c.in_ok-value.value)
    c.in_ok-value.ensures.ok
    (c.header_of_value.ensures.not_input refused)
