use Rattle.agg_request_tree.proofs.SameRequests.{AreSameUpTo}
use Rattle.agg_request_tree.proofs.+same.Given as goal

abbrev pub invariant-same::are_same-loop-name : goal.invariant-same::are_same-loop-name
invariant-same::are_same-loop-name g l = AreSameUpTo l.request l.other l.name-iterator l.others
