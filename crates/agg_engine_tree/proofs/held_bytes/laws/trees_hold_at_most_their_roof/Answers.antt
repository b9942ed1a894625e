use Rattle.agg_engine_tree.proofs.lemmas.held_bytes.TreeLaws.{most, most-one}
use Rattle.agg_engine_tree.proofs.held_bytes.laws.trees_hold_at_most_their_roof.Goals as goal

pub returns-clause-parents : goal.returns-clause-parents
returns-clause-parents c = most

pub returns-clause-one_parent : goal.returns-clause-one_parent
returns-clause-one_parent c = most-one
