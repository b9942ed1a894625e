use Rattle.agg_request_tree.proofs.Reorderings.{same}
use Rattle.agg_results.proofs.ListOrders.{IsReordering-from_permutation}
use Rattle.agg_results.proofs.ResultExists.{AreResults-exist}
use Rattle.agg_results.proofs.ResultOrders.{AreResults-reordering}
use Rattle.agg_results.proofs.laws.each_request_has_one_result.Goals as goal

pub returns-clause-exists : goal.returns-clause-exists
returns-clause-exists g c = AreResults-exist

pub returns-clause-unique : goal.returns-clause-unique
returns-clause-unique g c is_match request documents results others is are =
    AreResults-reordering is_match request documents documents results others same is are

pub returns-clause-any_order : goal.returns-clause-any_order
returns-clause-any_order g c is_match request documents permuted results others moved is are =
    AreResults-reordering is_match request documents permuted results others
    (IsReordering-from_permutation documents permuted moved) is are
