use Rattle.std.proofs.Common.{subst, sym}
use Rattle.serde_json.specs.View.{view}
use Rattle.agg_request.specs.json_values.Query.{IsQuery}
use Rattle.agg_pages.proofs.lemmas.header_text.FilterRequests.{found-says}
use Rattle.agg_pages.proofs.header_text.query_value.Goals as goal

pub returns : goal.returns
returns c =
    subst (λ d. IsQuery d c.args.query) (sym c.in_ok-clone.ensures.cases)
    (found-says (λ b. b.name) c.args.query _ (view c.in_ok-value.value) (view c.index.result.now)
    (view c.index-2.result.now) c.in_ok-request.ensures c.in_ok-value.ensures.written
    c.in_ok-value.ensures.back c.index.ensures c.index-2.ensures)
