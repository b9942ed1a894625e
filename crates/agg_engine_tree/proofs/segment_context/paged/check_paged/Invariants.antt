use Rattle.agg_engine_tree.proofs.lemmas.segment_context.PagedChecks.{IsCheckedUpTo}
use Rattle.agg_engine_tree.proofs.segment_context.paged.check_paged.Given as goal

abbrev pub invariant-loop-name : goal.invariant-loop-name
invariant-loop-name g l = IsCheckedUpTo l.params.page l.request l.name-iterator
