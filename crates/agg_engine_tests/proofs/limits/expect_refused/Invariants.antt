use Rattle.agg_engine_tests.proofs.limits.expect_refused.Given as goal

-- the ledger is the one of the blank
abbrev pub ghosts-walk_under : goal.ghosts-walk_under
ghosts-walk_under a = record { name = a.blank.name; parts = a.blank.parts }
