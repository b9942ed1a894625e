use Rattle.agg_engine_tests.proofs.collectors.segment.refuses_all_after_memory_was_exceeded.Given
    as goal

-- the ledger is the one of the blank
abbrev pub ghosts-expect_failed : goal.ghosts-expect_failed
ghosts-expect_failed g a = record { name = a.blank.name; parts = a.blank.parts }
