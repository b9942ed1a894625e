use Rattle.agg_request_tree.proofs.PageWalk.{IsPage-append, IsPage-from_walk}
use Rattle.agg_request_tree.proofs.laws.successive_pages_are_one_page.Goals as goal

pub returns-clause-two : goal.returns-clause-two
returns-clause-two c sources size more bound documents page next first second =
    IsPage-append sources documents size more bound page next first second

pub returns-clause-all : goal.returns-clause-all
returns-clause-all c sources size bound documents pages walk = IsPage-from_walk sources documents
    size bound pages walk
