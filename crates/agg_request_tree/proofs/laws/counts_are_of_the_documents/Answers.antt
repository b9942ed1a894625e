use Rattle.agg_request_tree.proofs.PageCounts.{counts-documents, counts-permutation}
use Rattle.agg_request_tree.proofs.laws.counts_are_of_the_documents.Goals as goal

pub returns-clause-counted : goal.returns-clause-counted
returns-clause-counted c = counts-documents

pub returns-clause-any_order : goal.returns-clause-any_order
returns-clause-any_order c = counts-permutation
