use Rattle.std.proofs.Common.{◌≡◌, ◌++◌, filter, take}
use Rattle.agg_segment.specs.Marks.{mark_at}
use Rattle.agg_filter.proofs.evaluator.DocumentQueryEvaluator.filter_batch.Given as goal

abbrev pub invariant-loop-doc : goal.invariant-loop-doc
invariant-loop-doc l =
    l.output ≡ l.fn.output ++ filter (mark_at l.self) (take l.doc-index l.docs)
