use Rattle.std.proofs.Common.{◌≡◌, suc, None, arith, rules}
use Rattle.serde_json.specs.Data.{depth}
use Rattle.serde_json.specs.Find.{as_str}
use Rattle.serde_json.specs.View.{view}
use Rattle.agg_request.proofs.lemmas.json_values.FilterKinds.{read_none, read_nothing}
use Rattle.agg_request.proofs.json_values.query.read_query.Goals as goal

pub returns-clause-grammar : goal.returns-clause-grammar
returns-clause-grammar c =
    let no_text : as_str (view c.args.value.now) ≡ None = search rules in
    read_nothing (view c.args.value.now) c.read_filter.result
    (c.read_filter.ensures (suc (depth (view c.args.value.now))) (omega arith)) no_text

pub returns-clause-none : goal.returns-clause-none
returns-clause-none c =
    read_none (view c.args.value.now) c.read_filter.result
    (c.read_filter.ensures (suc (depth (view c.args.value.now))) (omega arith))
