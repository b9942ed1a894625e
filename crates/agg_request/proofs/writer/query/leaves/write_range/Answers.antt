use Rattle.std.proofs.Common.{◌≡◌, codes, ap, ◌∙◌}
use Rattle.serde_json.specs.Data.{object}
use Rattle.serde_json.specs.View.{view}
use Rattle.agg_request.specs.WrittenJson.{range_members, with_bound}
use Rattle.agg_request.proofs.WrittenFilters.{is-range}
use Rattle.agg_request.proofs.writer.query.leaves.write_range.Goals as goal

pub returns : goal.returns
returns c =
    let low = c.in_ok-put_bound.ensures in
    let high = c.in_ok-put_bound-2.ensures in
    let lower = c.args.lower.now in
    let upper = c.args.upper.now in
    let body : view c.from.result ≡ object (range_members c.args.field.now lower upper) =
    c.from.ensures ∙ ap object (high.written
    ∙ ap (with_bound (codes "lte") (codes "lt") upper)
    (low.written ∙ ap (with_bound (codes "gte") (codes "gt") lower) c.in_ok-body.ensures)) in
    record {
      written = body;
      says = is-range (view c.from.result) c.args.field.now lower upper body low.says high.says;
    }
