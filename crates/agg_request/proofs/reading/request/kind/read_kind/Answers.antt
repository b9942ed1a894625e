use Rattle.std.proofs.Common.{codes, refl}
use Rattle.serde_json.specs.View.{view}
use Rattle.agg_request.proofs.lemmas.reading.AskedKinds.{refused_filter, refused_metric}
use Rattle.agg_request.proofs.reading.request.kind.read_kind.Goals as goal

pub returns-in_err-read_filter-in-filter-clause-read
    : goal.returns-in_err-read_filter-in-filter-clause-read
returns-in_err-read_filter-in-filter-clause-read g c =
    refused_filter g.B.HasName.name_of c.args.kind.now c.in-filter.is (view c.args.body.now)
    c.args.pool.now.items (c.in_err-read_filter-in-filter).field-0.0 c.from_residual.result
    c.from_residual.ensures.1 (c.in_err-read_filter-in-filter).ensures.read

pub returns-in_err-read_metric-in-value_count-clause-read
    : goal.returns-in_err-read_metric-in-value_count-clause-read
returns-in_err-read_metric-in-value_count-clause-read g c =
    refused_metric g.B.HasName.name_of c.args.kind.now (codes "value_count")
    c.in-value_count.is refl
    refl (view c.args.body.now) c.args.pool.now.items
    (c.in_err-read_metric-in-value_count).field-0.0
    (c.from_residual-in_err-read_metric-in-value_count).result
    (c.from_residual-in_err-read_metric-in-value_count).ensures.1
    (c.in_err-read_metric-in-value_count).ensures

pub returns-in_err-read_metric-in-max-clause-read
    : goal.returns-in_err-read_metric-in-max-clause-read
returns-in_err-read_metric-in-max-clause-read g c =
    refused_metric g.B.HasName.name_of c.args.kind.now (codes "max") c.in-max.is refl refl
    (view c.args.body.now) c.args.pool.now.items (c.in_err-read_metric-in-max).field-0.0
    (c.from_residual-in_err-read_metric-in-max).result
    (c.from_residual-in_err-read_metric-in-max).ensures.1
    (c.in_err-read_metric-in-max).ensures

pub returns-in_err-read_metric-in-min-clause-read
    : goal.returns-in_err-read_metric-in-min-clause-read
returns-in_err-read_metric-in-min-clause-read g c =
    refused_metric g.B.HasName.name_of c.args.kind.now (codes "min") c.in-min.is refl refl
    (view c.args.body.now) c.args.pool.now.items (c.in_err-read_metric-in-min).field-0.0
    (c.from_residual-in_err-read_metric-in-min).result
    (c.from_residual-in_err-read_metric-in-min).ensures.1
    (c.in_err-read_metric-in-min).ensures

pub returns-in_err-read_metric-in-sum-clause-read
    : goal.returns-in_err-read_metric-in-sum-clause-read
returns-in_err-read_metric-in-sum-clause-read g c =
    refused_metric g.B.HasName.name_of c.args.kind.now (codes "sum") c.in-sum.is refl refl
    (view c.args.body.now) c.args.pool.now.items (c.in_err-read_metric-in-sum).field-0.0
    (c.from_residual-in_err-read_metric-in-sum).result
    (c.from_residual-in_err-read_metric-in-sum).ensures.1
    (c.in_err-read_metric-in-sum).ensures
