use Rattle.serde_json.specs.View.{view}
use Rattle.agg_request.proofs.lemmas.json_values.Filters.{no_field_of_range, refused_lower}
use Rattle.agg_request.proofs.lemmas.json_values.Filters.{refused_upper}
use Rattle.agg_request.proofs.json_values.query.leaves.read_range.Goals as goal

pub returns-in_err-field : goal.returns-in_err-field
returns-in_err-field c =
    no_field_of_range (view c.args.body.now) c.in_err-field.field-0.0 c.from_residual.result
    c.from_residual.ensures.1 c.in_err-field.ensures

pub returns-in_err-lower : goal.returns-in_err-lower
returns-in_err-lower c =
    refused_lower (view c.args.body.now) c.in_err-lower.field-0.0
    c.from_residual-in_err-lower.result c.from_residual-in_err-lower.ensures.1
    c.in_err-lower.ensures

pub returns-in_err-upper : goal.returns-in_err-upper
returns-in_err-upper c =
    refused_upper (view c.args.body.now) c.in_err-upper.field-0.0
    c.from_residual-in_err-upper.result c.from_residual-in_err-upper.ensures.1
    c.in_err-upper.ensures
