use Rattle.agg_results.proofs.lemmas.intermediate_results.ShownPages.{full-last_tuple}
use Rattle.agg_results.proofs.intermediate_results.final_results.pages.last_tuple.Goals as goal

pub returns : goal.returns
returns c =
    full-last_tuple c.args.size c.args.page.now c.in_ok-tuple.field-0.now c.if-page-size.false
    c.in_ok-tuple.ensures.value
