use Rattle.agg_engine_tree.proofs.lemmas.held_bytes.TreeLaws.{least, least-one}
use Rattle.agg_engine_tree.proofs.held_bytes.laws.flushed_trees_hold_at_least_their_low_roof.Goals
    as goal

pub returns-clause-parents : goal.returns-clause-parents
returns-clause-parents c = least

pub returns-clause-one_parent : goal.returns-clause-one_parent
returns-clause-one_parent c = least-one
