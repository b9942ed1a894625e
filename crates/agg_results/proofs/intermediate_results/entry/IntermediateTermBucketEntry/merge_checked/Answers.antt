use Rattle.agg_results.proofs.intermediate_results as proofs
use proofs.entry.IntermediateTermBucketEntry.merge_checked.Goals as goal

pub returns-clause-count : goal.returns-clause-count
returns-clause-count c = (c.in_ok-merge_all.ensures.merged c.if-passed.false 0).0

pub returns-clause-below : goal.returns-clause-below
returns-clause-below c = λ depth. (c.in_ok-merge_all.ensures.merged c.if-passed.false depth).1
