use Rattle.std.proofs.Common.{⊎_elim, inl, inr}
use Rattle.serde_json.specs.View.{view}
use Rattle.agg_request.specs.reading.CompositeJson.{IsSourceBody}
use Rattle.agg_request.specs.reading.Unsupported.{HasUnsupportedInterval, HasUnsupportedLeast}
use Rattle.agg_request.specs.reading.Unsupported.{HasUnsupportedNumbers}
use Rattle.agg_request.specs.reading.CompositeJson.{IsSourceOfKind}
use Rattle.agg_request_tree.specs.declared.source.CompositeAggregationSource.TheVariants as of
use Rattle.agg_request.proofs.lemmas.reading.CompositeSources.{dates_of, numbers_of, terms_of}
use Rattle.agg_request.proofs.lemmas.json_values.Readings.{refused_by}
use Rattle.agg_request.proofs.reading.composite.sources.read_kind.Goals as goal

pub returns-in_err-read_terms-in-terms : goal.returns-in_err-read_terms-in-terms
returns-in_err-read_terms-in-terms c =
    let name = c.args.name.now in
    let kind = c.args.kind.now in
    let body = view c.args.body.now in
    refused_by (λ lenient terms. IsSourceBody lenient name body (of.Terms terms))
    (HasUnsupportedLeast body)
    (λ lenient. IsSourceOfKind lenient name kind body) (HasUnsupportedInterval kind body)
    c.in_err-read_terms-in-terms.field-0.0 c.from_residual.result c.from_residual.ensures.1
    c.in_err-read_terms-in-terms.ensures (λ h. inr h) (terms_of name kind body c.in-terms.is)

pub returns-in_err-read_histogram-in-histogram : goal.returns-in_err-read_histogram-in-histogram
returns-in_err-read_histogram-in-histogram c =
    let name = c.args.name.now in
    let kind = c.args.kind.now in
    let body = view c.args.body.now in
    refused_by (λ lenient numbers. IsSourceBody lenient name body (of.Histogram numbers))
    (HasUnsupportedNumbers body)
    (λ lenient. IsSourceOfKind lenient name kind body) (HasUnsupportedInterval kind body)
    c.in_err-read_histogram-in-histogram.field-0.0
    c.from_residual-in_err-read_histogram-in-histogram.result
    c.from_residual-in_err-read_histogram-in-histogram.ensures.1
    c.in_err-read_histogram-in-histogram.ensures
    (λ h. ⊎_elim (λ float. inl (c.in-histogram.is, float)) (λ least. inr least) h)
    (numbers_of name kind body c.in-histogram.is)

pub returns-in_err-read_date_histogram-in-date_histogram
    : goal.returns-in_err-read_date_histogram-in-date_histogram
returns-in_err-read_date_histogram-in-date_histogram c =
    let name = c.args.name.now in
    let kind = c.args.kind.now in
    let body = view c.args.body.now in
    refused_by (λ lenient dates. IsSourceBody lenient name body (of.DateHistogram dates))
    (HasUnsupportedLeast body)
    (λ lenient. IsSourceOfKind lenient name kind body) (HasUnsupportedInterval kind body)
    c.in_err-read_date_histogram-in-date_histogram.field-0.0
    c.from_residual-in_err-read_date_histogram-in-date_histogram.result
    c.from_residual-in_err-read_date_histogram-in-date_histogram.ensures.1
    c.in_err-read_date_histogram-in-date_histogram.ensures (λ h. inr h)
    (dates_of name kind body c.in-date_histogram.is)
