use Rattle.agg_request_tree.proofs.PageAfter.{bound_of-after_map}
use Rattle.agg_request_tree.proofs.laws.an_after_key_is_its_tuple.Goals as goal

pub returns : goal.returns
returns c = bound_of-after_map
