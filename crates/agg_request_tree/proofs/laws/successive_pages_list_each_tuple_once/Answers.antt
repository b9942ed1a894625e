use Rattle.agg_request_tree.proofs.PageSteps.{walk_ascends, walk_distinct, walk_lists}
use Rattle.agg_request_tree.proofs.laws.successive_pages_list_each_tuple_once.Goals as goal

pub returns-clause-ascending : goal.returns-clause-ascending
returns-clause-ascending c = walk_ascends

pub returns-clause-once : goal.returns-clause-once
returns-clause-once c = walk_distinct

pub returns-clause-whole : goal.returns-clause-whole
returns-clause-whole c = walk_lists
