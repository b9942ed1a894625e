use Rattle.std.proofs.Common.{◌≡◌, Some, codes}
use Rattle.serde_json.specs.Find.{as_str, get}
use Rattle.serde_json.specs.View.{view}
use Rattle.agg_values.specs.declared.order.MissingOrder.TheVariants.{Default}
use Rattle.agg_values.specs.declared.order.Order.TheVariants.{Asc}
use Rattle.agg_request.specs.reading.CompositeJson.{IsLeastOf, IsSourceBody}
use Rattle.agg_request.specs.reading.Unsupported.{HasUnsupportedLeast}
use Rattle.agg_request.specs.reading.CompositeJson.{IsTextAt, IsWordOr, missing_order_word}
use Rattle.agg_request.specs.reading.CompositeJson.{order_word, unit_word}
use Rattle.agg_request.specs.json_values.Json.{IsField, IsGiven, present}
use Rattle.agg_request_tree.specs.declared.source.CompositeAggregationSource.TheVariants as of
use Rattle.agg_request.proofs.lemmas.json_values.Readings.{refused_by}
use Rattle.agg_request.proofs.reading.composite.sources.date_histogram.read_date_histogram.Goals
    as goal

pub returns-in_err-read_field : goal.returns-in_err-read_field
returns-in_err-read_field c =
    let body = view c.args.body.now in
    refused_by (λ lenient. IsField body) ⊥
    (λ lenient x. IsSourceBody lenient c.args.name.now body (of.DateHistogram x))
    (HasUnsupportedLeast body)
    c.in_err-read_field.field-0.0
    c.from_residual-in_err-read_field.result c.from_residual-in_err-read_field.ensures.1
    c.in_err-read_field.ensures (λ h. absurd h) (λ lenient source h. (source.field, h.0.field))

pub returns-in_err-text_at : goal.returns-in_err-text_at
returns-in_err-text_at c =
    let body = view c.args.body.now in
    refused_by (λ lenient. IsTextAt (codes "fixed_interval") body) ⊥
    (λ lenient x. IsSourceBody lenient c.args.name.now body (of.DateHistogram x))
    (HasUnsupportedLeast body)
    c.in_err-text_at.field-0.0
    c.from_residual-in_err-text_at.result c.from_residual-in_err-text_at.ensures.1
    c.in_err-text_at.ensures (λ h. absurd h) (λ lenient source h. (source.fixed_interval, h.1.0))

pub returns-in_err-calendar_interval : goal.returns-in_err-calendar_interval
returns-in_err-calendar_interval c =
    let body = view c.args.body.now in
    refused_by (λ lenient. IsGiven (λ d unit. as_str d ≡ Some (unit_word unit))
    (present (codes "calendar_interval") body)) ⊥
    (λ lenient x. IsSourceBody lenient c.args.name.now body (of.DateHistogram x))
    (HasUnsupportedLeast body)
    c.in_err-calendar_interval.field-0.0
    c.from_residual-in_err-calendar_interval.result
    c.from_residual-in_err-calendar_interval.ensures.1
    c.in_err-calendar_interval.ensures (λ h. absurd h)
    (λ lenient source h. (source.calendar_interval, h.1.1))

pub returns-in_err-text_at-2 : goal.returns-in_err-text_at-2
returns-in_err-text_at-2 c =
    let body = view c.args.body.now in
    refused_by (λ lenient. IsTextAt (codes "offset") body) ⊥
    (λ lenient x. IsSourceBody lenient c.args.name.now body (of.DateHistogram x))
    (HasUnsupportedLeast body)
    c.in_err-text_at-2.field-0.0
    c.from_residual-in_err-text_at-2.result c.from_residual-in_err-text_at-2.ensures.1
    c.in_err-text_at-2.ensures (λ h. absurd h) (λ lenient source h. (source.offset, h.1.2))

pub returns-in_err-order : goal.returns-in_err-order
returns-in_err-order c =
    let body = view c.args.body.now in
    refused_by (λ lenient. IsWordOr Asc order_word (get (codes "order") body)) ⊥
    (λ lenient x. IsSourceBody lenient c.args.name.now body (of.DateHistogram x))
    (HasUnsupportedLeast body)
    c.in_err-order.field-0.0
    c.from_residual-in_err-order.result c.from_residual-in_err-order.ensures.1
    c.in_err-order.ensures (λ h. absurd h) (λ lenient source h. (source.order, h.0.order))

pub returns-in_err-missing_order : goal.returns-in_err-missing_order
returns-in_err-missing_order c =
    let body = view c.args.body.now in
    refused_by (λ lenient. IsWordOr Default missing_order_word (get (codes "missing_order") body)) ⊥
    (λ lenient x. IsSourceBody lenient c.args.name.now body (of.DateHistogram x))
    (HasUnsupportedLeast body)
    c.in_err-missing_order.field-0.0
    c.from_residual-in_err-missing_order.result c.from_residual-in_err-missing_order.ensures.1
    c.in_err-missing_order.ensures (λ h. absurd h)
    (λ lenient source h. (source.missing_order, h.0.missing_order))

pub returns-in_err-min : goal.returns-in_err-min
returns-in_err-min c =
    let body = view c.args.body.now in
    refused_by (λ lenient. IsLeastOf lenient body) (HasUnsupportedLeast body)
    (λ lenient x. IsSourceBody lenient c.args.name.now body (of.DateHistogram x))
    (HasUnsupportedLeast body)
    c.in_err-min.field-0.0
    c.from_residual-in_err-min.result c.from_residual-in_err-min.ensures.1
    c.in_err-min.ensures (λ h. h) (λ lenient source h. (source.min, h.0.min))
