use Rattle.agg_pages.proofs.program.run_uncounted.Given as goal

-- the ledger is the one of the blank
abbrev pub ghosts-run_over : goal.ghosts-run_over
ghosts-run_over g a = record { name = a.blank.name; parts = a.blank.parts }
