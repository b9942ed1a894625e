use Rattle.agg_engine_tests.proofs.collectors.tree.has_results_for_each_parent.Given as goal

-- the ledger is the one of the blank
abbrev pub ghosts-expect_results : goal.ghosts-expect_results
ghosts-expect_results a = record { name = a.blank.name; parts = a.blank.parts }
