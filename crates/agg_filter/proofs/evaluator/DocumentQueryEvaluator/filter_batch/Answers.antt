use Rattle.std.proofs.Common.{◌++◌, ◌∙◌, ap, arith, filter}
use Rattle.std.proofs.lemmas.Grind.{common_steps}
use Rattle.std.proofs.lemmas.List.{take_all}
use Rattle.agg_segment.specs.Marks.{mark_at}
use Rattle.agg_filter.proofs.MatchingDocuments.{filter-matches}
use Rattle.agg_filter.proofs.evaluator.DocumentQueryEvaluator.filter_batch.Goals as goal

pub loop-doc-preserved : goal.loop-doc-preserved
loop-doc-preserved c = grind (arith, common_steps)

pub returns-clause-matching : goal.returns-clause-matching
returns-clause-matching c tree segment are =
    let marks = c.args.self.now in
    c.loop-doc.invariant
    ∙ ap (λ docs. c.args.output.now ++ filter (mark_at marks) docs)
    (take_all c.loop-doc.doc-index c.args.docs.now c.loop-doc-test.false)
    ∙ ap (λ docs. c.args.output.now ++ docs)
    (filter-matches tree segment marks are c.args.docs.now)
