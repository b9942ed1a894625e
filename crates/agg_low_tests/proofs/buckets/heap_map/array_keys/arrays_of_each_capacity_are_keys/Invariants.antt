use Rattle.agg_low_tests.proofs.buckets.heap_map.array_keys.arrays_of_each_capacity_are_keys.Given
    as goal

-- the ledger is the one of the blank
abbrev pub ghosts-expect_over : goal.ghosts-expect_over
ghosts-expect_over g a = record { name = a.blank.name; parts = a.blank.parts }
