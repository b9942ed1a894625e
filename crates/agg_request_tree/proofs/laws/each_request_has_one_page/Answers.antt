use Rattle.agg_request_tree.proofs.PageExists.{page_exists}
use Rattle.agg_request_tree.proofs.PageUnique.{IsPage-same}
use Rattle.agg_request_tree.proofs.laws.each_request_has_one_page.Goals as goal

pub returns-clause-exists : goal.returns-clause-exists
returns-clause-exists c = page_exists

pub returns-clause-unique : goal.returns-clause-unique
returns-clause-unique c = IsPage-same
