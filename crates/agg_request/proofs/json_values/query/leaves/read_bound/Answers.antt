use Rattle.std.proofs.Common.{◌≡◌, true, false, is_some, rules}
use Rattle.serde_json.specs.Find.{get}
use Rattle.serde_json.specs.View.{view}
use Rattle.agg_request.proofs.lemmas.json_values.Filters.{refused_excluded, refused_included}
use Rattle.agg_request.proofs.json_values.query.leaves.read_bound.Goals as goal

pub returns-in_err-read_value_at-in-true-false : goal.returns-in_err-read_value_at-in-true-false
returns-in_err-read_value_at-in-true-false c =
    let there : is_some (get c.args.including.now (view c.args.body.now)) ≡ true = search rules in
    let absent : is_some (get c.args.excluding.now (view c.args.body.now)) ≡ false = search rules in
    refused_included c.args.including.now c.args.excluding.now (view c.args.body.now)
    c.in_err-read_value_at-in-true-false.field-0.0 c.from_residual.result there absent
    c.from_residual.ensures.1 c.in_err-read_value_at-in-true-false.ensures

pub returns-in_err-read_value_at-in-false-true : goal.returns-in_err-read_value_at-in-false-true
returns-in_err-read_value_at-in-false-true c =
    let absent : is_some (get c.args.including.now (view c.args.body.now)) ≡ false = search rules in
    let there : is_some (get c.args.excluding.now (view c.args.body.now)) ≡ true = search rules in
    refused_excluded c.args.including.now c.args.excluding.now (view c.args.body.now)
    c.in_err-read_value_at-in-false-true.field-0.0
    c.from_residual-in_err-read_value_at-in-false-true.result absent there
    c.from_residual-in_err-read_value_at-in-false-true.ensures.1
    c.in_err-read_value_at-in-false-true.ensures
