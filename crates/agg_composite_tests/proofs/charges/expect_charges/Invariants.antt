use Rattle.agg_composite_tests.proofs.charges.expect_charges.Given as goal

-- the ledger is the one of the blank
abbrev pub ghosts-expect_counted : goal.ghosts-expect_counted
ghosts-expect_counted g a = record { name = a.blank.name; parts = a.blank.parts }
