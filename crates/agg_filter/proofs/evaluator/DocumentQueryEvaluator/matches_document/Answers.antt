use Rattle.std.proofs.Common.{◌∙◌, ap}
use Rattle.agg_segment.specs.Marks.{mark_at}
use Rattle.agg_filter.proofs.MatchingDocuments.{mark-matches}
use Rattle.agg_filter.proofs.evaluator.DocumentQueryEvaluator.matches_document.Goals as goal

pub returns-clause-query : goal.returns-clause-query
returns-clause-query c tree segment are =
    c.contains.ensures ∙ ap (λ marks. mark_at marks c.args.doc) c.self.view_is
    ∙ mark-matches tree segment c.args.self.now are c.args.doc
