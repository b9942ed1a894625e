use Rattle.peslumok.proofs.walk.refusal_of.Given as goal

-- the ledger is the one of the blank
abbrev pub ghosts-walk_of : goal.ghosts-walk_of
ghosts-walk_of a = record { name = a.blank.name; parts = a.blank.parts }
