use Rattle.agg_engine_tree.proofs.tree_results.collected.entries_under.Goals as goal

pub returns-in-Some : goal.returns-in-Some
returns-in-Some c = rw c.in-Some.is c.entries.ensures

pub returns-in-None : goal.returns-in-None
returns-in-None c = rw c.in-None.is c.none.ensures
