use Rattle.agg_engine_tests.proofs.collectors.segment.holds_as_much_as_memory_allows.Given as goal

-- the ledger is the one of the blank
abbrev pub ghosts-expect_limits : goal.ghosts-expect_limits
ghosts-expect_limits g a = record { name = a.blank.name; parts = a.blank.parts }
