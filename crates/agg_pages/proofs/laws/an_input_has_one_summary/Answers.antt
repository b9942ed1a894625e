use Rattle.agg_pages.proofs.PlainWalks.{summary-exists, summary-unique}
use Rattle.agg_pages.proofs.laws.an_input_has_one_summary.Goals as goal

pub returns-clause-exists : goal.returns-clause-exists
returns-clause-exists g c = λ tree_for i. summary-exists tree_for i

pub returns-clause-only : goal.returns-clause-only
returns-clause-only g c = λ tree_for i. summary-unique tree_for i
