use Rattle.agg_engine_tests.proofs.snapshot_results.results.expect_refusal.Given as goal

-- the ledger is the one of the blank
abbrev pub ghosts-shown_of : goal.ghosts-shown_of
ghosts-shown_of g a = record { name = a.blank.name; parts = a.blank.parts }
