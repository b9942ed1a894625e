use Rattle.agg_composite_tests.proofs.listing.expect_listed.Given as goal

-- the ledger is the one of the blank
abbrev pub ghosts-expect_shown : goal.ghosts-expect_shown
ghosts-expect_shown g a = record { name = a.blank.name; parts = a.blank.parts }
