use Rattle.agg_filter.proofs.MatchingDocuments.{marks-are}
use Rattle.agg_filter.proofs.evaluator.DocumentQueryEvaluator.new.Goals as goal

pub returns : goal.returns
returns c =
    marks-are c.args.tree.now c.args.segment.now c.in_ok-new.field-0 c.num_docs.result
    c.num_docs.ensures.count c.num_docs.ensures.bound c.in_ok-new.ensures
