use Rattle.serde_json.specs.View.{view}
use Rattle.agg_request.proofs.lemmas.json_values.Filters.{no_field_of_exists}
use Rattle.agg_request.proofs.json_values.query.leaves.read_exists.Goals as goal

pub returns-in_err-read_field : goal.returns-in_err-read_field
returns-in_err-read_field c =
    no_field_of_exists (view c.args.body.now) c.in_err-read_field.field-0.0 c.from_residual.result
    c.from_residual.ensures.1 c.in_err-read_field.ensures
