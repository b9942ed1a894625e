use Rattle.std.proofs.Common.{◌≡◌, codes, false, option_map, sym, subst, ap, ◌∙◌}
use Rattle.serde_json.specs.Data.{object}
use Rattle.serde_json.specs.View.{view}
use Rattle.agg_request.specs.reading.CompositeJson.{IsSourceBody, unit_word}
use Rattle.agg_request.specs.WrittenJson.{source_members, with_least, with_text}
use Rattle.agg_request_tree.specs.declared.source.CompositeAggregationSource.TheVariants as of
use Rattle.agg_request.proofs.WrittenSources.{dates-body}
use Rattle.agg_request.proofs.writer.sources.write_date_histogram.Goals as goal

pub returns : goal.returns
returns c =
    let source = c.args.source.now in
    let least = c.in_ok-put_min.ensures in
    let unit = option_map unit_word source.calendar_interval in
    let body : view c.from.result ≡ object (source_members (of.DateHistogram source)) =
    c.from.ensures ∙ ap object (least.written ∙ ap (with_least source.min)
    (c.in_ok-put_text-2.ensures ∙ ap (with_text (codes "offset") source.offset)
    (c.in_ok-put_calendar.ensures ∙ ap (with_text (codes "calendar_interval") unit)
    (c.in_ok-put_text.ensures ∙ ap (with_text (codes "fixed_interval") source.fixed_interval)
    c.in_ok-body.ensures)))) in
    record {
      written = body;
      says = subst (λ d. IsSourceBody false source.name d (of.DateHistogram source)) (sym body)
          (dates-body source least.says);
    }
