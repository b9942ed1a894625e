use Rattle.std.proofs.Common.{codes, refl}
use Rattle.serde_json.specs.View.{view}
use Rattle.agg_request_tree.specs.declared.source.CompositeAggregationSource.TheVariants as of
use Rattle.agg_request.proofs.WrittenSources.{is-source}
use Rattle.agg_request.proofs.writer.sources.write_source.Goals as goal

pub returns-in_ok-write_terms-in-Terms : goal.returns-in_ok-write_terms-in-Terms
returns-in_ok-write_terms-in-Terms c =
    let body = c.in_ok-write_terms-in-Terms.ensures in
    rw c.in-Terms.is (is-source c.named.result (codes "terms")
    (view c.in_ok-write_terms-in-Terms.field-0) (of.Terms c.in-Terms.terms) c.named.ensures refl
    body.written (refl, body.says))

pub returns-in_ok-write_histogram-in-Histogram : goal.returns-in_ok-write_histogram-in-Histogram
returns-in_ok-write_histogram-in-Histogram c =
    let body = c.in_ok-write_histogram-in-Histogram.ensures in
    rw c.in-Histogram.is (is-source c.named-in-Histogram.result (codes "histogram")
    (view c.in_ok-write_histogram-in-Histogram.field-0) (of.Histogram c.in-Histogram.histogram)
    c.named-in-Histogram.ensures refl body.written (refl, body.says))

pub returns-in_ok-write_date_histogram-in-DateHistogram
    : goal.returns-in_ok-write_date_histogram-in-DateHistogram
returns-in_ok-write_date_histogram-in-DateHistogram c =
    let body = c.in_ok-write_date_histogram-in-DateHistogram.ensures in
    rw c.in-DateHistogram.is (is-source c.named-in-DateHistogram.result (codes "date_histogram")
    (view c.in_ok-write_date_histogram-in-DateHistogram.field-0)
    (of.DateHistogram c.in-DateHistogram.dates) c.named-in-DateHistogram.ensures refl
    body.written (refl, body.says))
