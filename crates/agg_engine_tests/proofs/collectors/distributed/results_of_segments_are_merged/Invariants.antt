use Rattle.agg_engine_tests.proofs.collectors.distributed.results_of_segments_are_merged.Given
    as goal

-- the ledger is the one of the blank
abbrev pub ghosts-merged : goal.ghosts-merged
ghosts-merged g a = record { name = a.blank.name; parts = a.blank.parts }
