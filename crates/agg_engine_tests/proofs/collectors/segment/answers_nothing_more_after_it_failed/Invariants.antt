use Rattle.agg_engine_tests.proofs.collectors.segment.answers_nothing_more_after_it_failed.Given
    as goal

-- the ledger is the one of the blank
abbrev pub ghosts-expect_failed : goal.ghosts-expect_failed
ghosts-expect_failed g a = record { name = a.blank.name; parts = a.blank.parts }
