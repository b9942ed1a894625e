use Rattle.agg_request_tree.proofs.PageUnique.{IsPage-distinct}
use Rattle.agg_request_tree.proofs.laws.a_page_lists_each_tuple_once.Goals as goal

pub returns : goal.returns
returns c = IsPage-distinct
