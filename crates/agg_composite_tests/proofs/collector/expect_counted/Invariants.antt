use Rattle.agg_composite_tests.proofs.collector.expect_counted.Given as goal

-- the ledger is the one of the blank
abbrev pub ghosts-expect_pages : goal.ghosts-expect_pages
ghosts-expect_pages g a = record { name = a.blank.name; parts = a.blank.parts }
