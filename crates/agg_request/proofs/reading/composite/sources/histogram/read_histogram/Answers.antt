use Rattle.std.proofs.Common.{codes, inl, inr}
use Rattle.serde_json.specs.Find.{get}
use Rattle.serde_json.specs.View.{view}
use Rattle.agg_values.specs.declared.order.MissingOrder.TheVariants.{Default}
use Rattle.agg_values.specs.declared.order.Order.TheVariants.{Asc}
use Rattle.agg_request.specs.reading.Unsupported.{HasUnsupportedLeast, HasUnsupportedNumbers}
use Rattle.agg_request.specs.reading.CompositeJson.{IsIntervalOf, IsLeastOf, IsSourceBody, IsWordOr}
use Rattle.agg_request.specs.reading.CompositeJson.{missing_order_word, order_word}
use Rattle.agg_request.specs.json_values.Json.{IsField}
use Rattle.agg_request.specs.json_values.Unsupported.{HasFloatAt}
use Rattle.agg_request_tree.specs.declared.source.CompositeAggregationSource.TheVariants as of
use Rattle.agg_request.proofs.lemmas.json_values.Readings.{refused_by}
use Rattle.agg_request.proofs.reading.composite.sources.histogram.read_histogram.Goals as goal

pub returns-in_err-read_field : goal.returns-in_err-read_field
returns-in_err-read_field c =
    let body = view c.args.body.now in
    refused_by (λ lenient. IsField body) ⊥
    (λ lenient x. IsSourceBody lenient c.args.name.now body (of.Histogram x))
    (HasUnsupportedNumbers body)
    c.in_err-read_field.field-0.0
    c.from_residual-in_err-read_field.result c.from_residual-in_err-read_field.ensures.1
    c.in_err-read_field.ensures (λ h. absurd h) (λ lenient source h. (source.field, h.0.field))

pub returns-in_err-read_interval : goal.returns-in_err-read_interval
returns-in_err-read_interval c =
    let body = view c.args.body.now in
    refused_by (λ lenient. IsIntervalOf lenient body) (HasFloatAt (codes "interval") body)
    (λ lenient x. IsSourceBody lenient c.args.name.now body (of.Histogram x))
    (HasUnsupportedNumbers body)
    c.in_err-read_interval.field-0.0
    c.from_residual-in_err-read_interval.result c.from_residual-in_err-read_interval.ensures.1
    c.in_err-read_interval.ensures (λ h. inl h) (λ lenient source h. (source.interval, h.1))

pub returns-in_err-order : goal.returns-in_err-order
returns-in_err-order c =
    let body = view c.args.body.now in
    refused_by (λ lenient. IsWordOr Asc order_word (get (codes "order") body)) ⊥
    (λ lenient x. IsSourceBody lenient c.args.name.now body (of.Histogram x))
    (HasUnsupportedNumbers body)
    c.in_err-order.field-0.0
    c.from_residual-in_err-order.result c.from_residual-in_err-order.ensures.1
    c.in_err-order.ensures (λ h. absurd h) (λ lenient source h. (source.order, h.0.order))

pub returns-in_err-missing_order : goal.returns-in_err-missing_order
returns-in_err-missing_order c =
    let body = view c.args.body.now in
    refused_by (λ lenient. IsWordOr Default missing_order_word (get (codes "missing_order") body)) ⊥
    (λ lenient x. IsSourceBody lenient c.args.name.now body (of.Histogram x))
    (HasUnsupportedNumbers body)
    c.in_err-missing_order.field-0.0
    c.from_residual-in_err-missing_order.result c.from_residual-in_err-missing_order.ensures.1
    c.in_err-missing_order.ensures (λ h. absurd h)
    (λ lenient source h. (source.missing_order, h.0.missing_order))

pub returns-in_err-min : goal.returns-in_err-min
returns-in_err-min c =
    let body = view c.args.body.now in
    refused_by (λ lenient. IsLeastOf lenient body) (HasUnsupportedLeast body)
    (λ lenient x. IsSourceBody lenient c.args.name.now body (of.Histogram x))
    (HasUnsupportedNumbers body)
    c.in_err-min.field-0.0
    c.from_residual-in_err-min.result c.from_residual-in_err-min.ensures.1
    c.in_err-min.ensures (λ h. inr h) (λ lenient source h. (source.min, h.0.min))
