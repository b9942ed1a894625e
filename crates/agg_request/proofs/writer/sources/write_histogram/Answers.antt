use Rattle.std.proofs.Common.{◌≡◌, codes, false, sym, subst, ap, ◌∙◌, rules}
use Rattle.serde_json.specs.Data.{object, put}
use Rattle.serde_json.specs.View.{view}
use Rattle.agg_request.specs.json_values.Json.{IsWhole, whole_number}
use Rattle.agg_request.specs.reading.CompositeJson.{IsSourceBody}
use Rattle.agg_request.specs.WrittenJson.{shared_members, with_least}
use Rattle.agg_request_tree.specs.declared.source.CompositeAggregationSource.TheVariants as of
use Rattle.agg_request.proofs.WrittenSources.{numbers-body}
use Rattle.agg_request.proofs.writer.sources.write_histogram.Goals as goal

pub returns-clause-says : goal.returns-clause-says
returns-clause-says c =
    let source = c.args.source.now in
    let least = c.in_ok-put_min.ensures in
    let interval = view c.write_interval.result in
    let whole : IsWhole whole_number false interval source.interval = search rules in
    let body : view c.from.result
    ≡ object (with_least source.min (put (codes "interval") interval (shared_members source.field
    source.order source.missing_bucket source.missing_order))) =
    c.from.ensures ∙ ap object (least.written ∙ ap (with_least source.min)
    (c.in_ok-put.ensures.ok ∙ ap (put (codes "interval") interval) c.in_ok-body.ensures)) in
    subst (λ d. IsSourceBody false source.name d (of.Histogram source)) (sym body)
    (numbers-body source interval whole least.says)
