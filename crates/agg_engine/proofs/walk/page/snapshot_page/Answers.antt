use Rattle.std.proofs.Common.{refl, sym}
use Rattle.agg_segment.specs.Query.{matches}
use Rattle.agg_request_tree.specs.BuiltRequest.{built_tree}
use Rattle.agg_engine.proofs.lemmas.collectors.BuiltTrees.{tree-matches}
use Rattle.agg_engine.proofs.PageResults.{answers-final, answers-refused, asked-built, merged-page}
use Rattle.agg_engine.proofs.ReachedPage.{alike-here, known-here}
use Rattle.agg_engine.proofs.walk.page.snapshot_page.Goals as goal

pub returns-in_err-merged-clause-answer : goal.returns-in_err-merged-clause-answer
returns-in_err-merged-clause-answer g c query_for trees =
    let asked = asked-built c.args.page.now (built_tree query_for) trees in
    answers-refused _ (built_tree query_for) (tree-matches query_for)
    c.args.limits.now c.args.page.now.query.now c.args.page.now.request.now
    c.args.page.now.params.now.page c.args.segments.now c.args.steps.now
    c.snapshot_results.new.steps c.in_err-merged.field-0.0
    (c.in_err-merged.ensures.cause _ asked) (c.in_err-merged.ensures.results _ asked)
    c.from_residual.result c.from_residual.ensures.1

pub page_results-requires-clause-known : goal.page_results-requires-clause-known
page_results-requires-clause-known g c =
    let made = c.requires.asked.trees in
    let asked = asked-built c.args.page.now made.0 made.1 in
    known-here (λ b d. matches (made.0 b) d) c.args.page.now.params.now.page
    c.args.page.now.request.now _
    c.in_ok-merged.merged.results
    (merged-page (λ b d. matches (made.0 b) d) made.0 (λ b d. refl) c.args.limits.now
    c.args.page.now.query.now c.args.page.now.request.now c.args.page.now.params.now.page
    c.args.segments.now c.in_ok-merged.merged.results
    (c.in_ok-merged.ensures.results _ asked).stands (c.in_ok-merged.ensures.range _ asked)
    (c.in_ok-merged.ensures.few _ asked))

pub page_results-requires-clause-alike : goal.page_results-requires-clause-alike
page_results-requires-clause-alike g c =
    let made = c.requires.asked.trees in
    let asked = asked-built c.args.page.now made.0 made.1 in
    alike-here (λ b d. matches (made.0 b) d) c.args.page.now.params.now.page
    c.args.page.now.request.now _
    c.in_ok-merged.merged.results
    (merged-page (λ b d. matches (made.0 b) d) made.0 (λ b d. refl) c.args.limits.now
    c.args.page.now.query.now c.args.page.now.request.now c.args.page.now.params.now.page
    c.args.segments.now c.in_ok-merged.merged.results
    (c.in_ok-merged.ensures.results _ asked).stands (c.in_ok-merged.ensures.range _ asked)
    (c.in_ok-merged.ensures.few _ asked))

pub returns-clause-answer : goal.returns-clause-answer
returns-clause-answer g c query_for trees =
    let asked = asked-built c.args.page.now (built_tree query_for) trees in
    let kept = c.in_ok-merged.ensures.limits in
    answers-final _ (built_tree query_for) (tree-matches query_for)
    c.args.limits.now c.args.page.now.query.now c.args.page.now.request.now
    c.args.page.now.params.now.page c.args.segments.now c.args.steps.now
    c.snapshot_results.new.steps c.in_ok-merged.merged
    (merged-page _ (built_tree query_for) (tree-matches query_for) c.args.limits.now
    c.args.page.now.query.now c.args.page.now.request.now c.args.page.now.params.now.page
    c.args.segments.now c.in_ok-merged.merged.results
    (c.in_ok-merged.ensures.results _ asked).stands (c.in_ok-merged.ensures.range _ asked)
    (c.in_ok-merged.ensures.few _ asked))
    (c.in_ok-merged.ensures.room _ asked)
    (c.in_ok-merged.ensures.results _ asked)
    c.page_results.result c.page_results.ensures.ok (rw (sym kept) c.page_results.ensures.few)
    (rw (sym kept) c.page_results.ensures.cause)
