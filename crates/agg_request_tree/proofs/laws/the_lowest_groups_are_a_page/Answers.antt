use Rattle.agg_request_tree.proofs.PageFromGroups.{IsPage-from_groups}
use Rattle.agg_request_tree.proofs.laws.the_lowest_groups_are_a_page.Goals as goal

pub returns : goal.returns
returns c sources size bound documents groups are = IsPage-from_groups sources documents size bound
    groups are
