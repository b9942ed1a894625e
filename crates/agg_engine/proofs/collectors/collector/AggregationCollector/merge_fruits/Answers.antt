use Rattle.std.proofs.Common.{sym, subst}
use Rattle.std.proofs.lemmas.Result.{IfErr-weaker, IfOk-weaker}
use Rattle.agg_results.specs.Results.{AreResults}
use Rattle.agg_request_tree.specs.Matching.{built_matches}
use Rattle.agg_engine_tree.specs.segment_context.Pages.{paged}
use Rattle.agg_request_tree.specs.BuiltRequest.{built}
use Rattle.agg_engine.specs.collectors.Fruits.{IsFinalCause, joined}
use Rattle.agg_engine.proofs.lemmas.collectors.FinalFruits.{final-cause, final-fruits, merge-cause}
use Rattle.agg_engine.proofs.collectors.collector.AggregationCollector.merge_fruits.Goals as goal

pub returns-in-Ok-clause-ok : goal.returns-in-Ok-clause-ok
returns-in-Ok-clause-ok g c =
    let page = c.args.self.now.context.page in
    let request = c.args.self.now.agg.now in
    IfOk-weaker c.into_final_result.result _ _ (λ results is query_for trees lists all.
    subst (AreResults (built_matches query_for) (paged page request) (joined lists)) (sym is)
    (final-fruits query_for page request (joined lists) c.in-Ok.whole.results
    (c.in-Ok.ensures.ok (paged page (built query_for request)) lists all)))
    c.into_final_result.ensures.ok

pub returns-in-Ok-clause-cause : goal.returns-in-Ok-clause-cause
returns-in-Ok-clause-cause g c =
    let page = c.args.self.now.context.page in
    let request = c.args.self.now.agg.now in
    IfErr-weaker c.into_final_result.result _ _ (λ error is query_for trees lists small all.
    final-cause query_for page request (joined lists) c.in-Ok.whole.results
    (c.in-Ok.ensures.ok (paged page (built query_for request)) lists all)
    c.args.limits.now.bucket_limit error is) c.into_final_result.ensures.cause

pub returns-in-Err-clause-cause : goal.returns-in-Err-clause-cause
returns-in-Err-clause-cause g c query_for trees lists small all =
    let page = c.args.self.now.context.page in
    let request = c.args.self.now.agg.now in
    subst (IsFinalCause (built_matches query_for) c.args.limits.now.bucket_limit
    (paged page request) (joined lists)) (sym c.from.ensures)
    (merge-cause query_for page request (joined lists) c.args.limits.now.bucket_limit
    c.in-Err.error
    (c.in-Err.ensures.cause (paged page (built query_for request)) lists small all))
