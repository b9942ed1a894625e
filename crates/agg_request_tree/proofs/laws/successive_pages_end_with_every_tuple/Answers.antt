use Rattle.agg_request_tree.proofs.PageWhole.{walk_ends, walk_with_room}
use Rattle.agg_request_tree.proofs.laws.successive_pages_end_with_every_tuple.Goals as goal

pub returns-clause-ends : goal.returns-clause-ends
returns-clause-ends c sources size bound documents pages walk some long =
    walk_ends sources documents size some bound pages walk long

pub returns-clause-every : goal.returns-clause-every
returns-clause-every c sources size bound documents pages walk room =
    walk_with_room sources documents size bound pages walk room
