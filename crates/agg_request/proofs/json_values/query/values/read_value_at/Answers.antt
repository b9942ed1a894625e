use Rattle.std.proofs.Common.{ap, sym, ◌∙◌}
use Rattle.serde_json.specs.View.{view}
use Rattle.std.specs.Prelude.{option_map}
use Rattle.agg_request.proofs.lemmas.json_values.Filters.{read_at}
use Rattle.agg_request.proofs.json_values.query.values.read_value_at.Goals as goal

pub returns : goal.returns
returns c =
    read_at c.args.name.now (view c.args.body.now) c.in-Some.text.now c.read_value.result
    (sym c.text_at.ensures ∙ ap (option_map (λ text. text.now)) c.in-Some.is)
    c.read_value.ensures
