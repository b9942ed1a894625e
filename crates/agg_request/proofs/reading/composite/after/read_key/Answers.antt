use Rattle.std.proofs.Common.{◌≡◌, Some, rules}
use Rattle.serde_json.specs.Find.{as_str}
use Rattle.serde_json.specs.View.{view}
use Rattle.agg_request.proofs.lemmas.reading.AfterKeys.{refused_json}
use Rattle.agg_request.proofs.reading.composite.after.read_key.Goals as goal

pub returns-in_err-read : goal.returns-in_err-read
returns-in_err-read c =
    let found : as_str (view c.args.value.now) ≡ Some c.in-Some.text.now = search rules in
    refused_json (view c.args.value.now) c.in-Some.text.now c.in_ok-copy_of.field-0
    c.in_err-read.field-0.0 c.from_residual-in_err-read.result found c.in_ok-copy_of.ensures
    c.from_residual-in_err-read.ensures.1 c.in_err-read.ensures.err c.in_err-read.ensures.each
