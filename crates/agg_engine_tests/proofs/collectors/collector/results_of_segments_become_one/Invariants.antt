use Rattle.agg_engine_tests.proofs.collectors.collector.results_of_segments_become_one.Given as goal

-- the ledger is the one of the blank
abbrev pub ghosts-shown : goal.ghosts-shown
ghosts-shown g a = record { name = a.blank.name; parts = a.blank.parts }
