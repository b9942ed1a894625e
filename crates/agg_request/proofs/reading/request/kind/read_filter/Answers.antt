use Rattle.std.proofs.Common.{◌≡◌, None, rules}
use Rattle.serde_json.specs.View.{view}
use Rattle.agg_request.specs.reading.Builders.{builder_name}
use Rattle.agg_request.proofs.lemmas.reading.AskedKinds.{refused_tree}
use Rattle.agg_request.proofs.reading.request.kind.read_filter.Goals as goal

pub returns-in_err-read_query-in-None-clause-read
    : goal.returns-in_err-read_query-in-None-clause-read
returns-in_err-read_query-in-None-clause-read g c =
    let plain : builder_name (view c.args.body.now) ≡ None = search rules in
    refused_tree g.B.HasName.name_of (view c.args.body.now) plain c.args.pool.now.items
    c.in_err-read_query-in-None.field-0.0 c.read_query.result c.from_residual.result
    c.from_residual.ensures.1 c.in_err-read_query-in-None.was c.read_query.ensures.unsupported
    c.read_query.ensures.grammar c.read_query.ensures.none c.read_query.ensures.kinds
