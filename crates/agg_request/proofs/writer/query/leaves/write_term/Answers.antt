use Rattle.std.proofs.Common.{◌≡◌, codes, ap, ◌∙◌}
use Rattle.serde_json.specs.Data.{object, put}
use Rattle.serde_json.specs.View.{view}
use Rattle.agg_request.specs.WrittenJson.{data_of_value, term_members}
use Rattle.agg_request.proofs.WrittenFilters.{is-term}
use Rattle.agg_request.proofs.writer.query.leaves.write_term.Goals as goal

pub returns : goal.returns
returns c =
    let field = c.args.field.now in
    let value = c.args.value.now in
    let body : view c.from.result ≡ object (term_members field value) =
    c.from.ensures ∙ ap object (c.in_ok-put_value.ensures.written
    ∙ ap (put (codes "value") (data_of_value value)) c.in_ok-body.ensures) in
    record {
      written = body;
      says = is-term (view c.from.result) field value body c.in_ok-put_value.ensures.says;
    }
