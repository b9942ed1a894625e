use Rattle.std.proofs.Common.{◌≡◌, Some, codes, rules}
use Rattle.serde_json.specs.View.{view}
use Rattle.agg_request.specs.json_values.Json.{present}
use Rattle.agg_request.proofs.lemmas.reading.LeastValues.{least_read, null_least, refused_least}
use Rattle.agg_request.proofs.reading.composite.words.min.Goals as goal

pub returns-in_err-key : goal.returns-in_err-key
returns-in_err-key c =
    let there : present (codes "min") (view c.args.body.now) ≡ Some (view c.in-Some.found.now) =
    search rules in
    refused_least (view c.args.body.now) (view c.in-Some.found.now) c.in_err-key.field-0.0
    c.from_residual.result there c.from_residual.ensures.1 c.in_err-key.ensures

pub returns-in-Null : goal.returns-in-Null
returns-in-Null c =
    let there : present (codes "min") (view c.args.body.now) ≡ Some (view c.in-Some.found.now) =
    search rules in
    null_least (view c.args.body.now) (view c.in-Some.found.now) c.in_ok-key.key there
    c.in_ok-key.ensures c.in-Null.is

pub returns : goal.returns
returns c =
    let there : present (codes "min") (view c.args.body.now) ≡ Some (view c.in-Some.found.now) =
    search rules in
    least_read (view c.args.body.now) (view c.in-Some.found.now) c.in_ok-key.key there
    c.in_ok-key.ensures c.in_default-0₀.not-Null
