use Rattle.agg_low_tests.proofs.buckets.heap_map.many_keys.many_keys_are_expected.Given as goal

-- the ledger is the one of the blank
abbrev pub ghosts-expect_all : goal.ghosts-expect_all
ghosts-expect_all g a = record { name = a.blank.name; parts = a.blank.parts }
