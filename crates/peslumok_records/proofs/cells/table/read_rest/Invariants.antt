use Rattle.peslumok_records.proofs.lemmas.cells.TableRows.{GoesOn}
use Rattle.peslumok_records.proofs.cells.table.read_rest.Given as goal

abbrev pub invariant-rows : goal.invariant-rows
invariant-rows l = GoesOn l.asked l.places l.initial.rows l.rows l.initial.into l.into
