use Rattle.agg_engine_tests.proofs.collectors.segment.gives_back_where_it_is_abandoned.Given as goal

-- the ledger is the one of the blank
abbrev pub ghosts-expect_abandoned : goal.ghosts-expect_abandoned
ghosts-expect_abandoned g a = record { name = a.blank.name; parts = a.blank.parts }
