use Rattle.serde_json.specs.View.{view}
use Rattle.agg_request.proofs.lemmas.json_values.Filters.{no_field_of_term, refused_term}
use Rattle.agg_request.proofs.json_values.query.leaves.read_term.Goals as goal

pub returns-in_err-field : goal.returns-in_err-field
returns-in_err-field c =
    no_field_of_term (view c.args.body.now) c.in_err-field.field-0.0 c.from_residual.result
    c.from_residual.ensures.1 c.in_err-field.ensures

pub returns-in_err-value : goal.returns-in_err-value
returns-in_err-value c =
    refused_term (view c.args.body.now) c.in_err-value.field-0.0 c.from_residual-in_err-value.result
    c.from_residual-in_err-value.ensures.1 c.in_err-value.ensures
