use Rattle.csv.specs.Records.{fields_of}
use Rattle.peslumok_records.proofs.lemmas.cells.HeaderPlaces.{IsPlaceBefore}
use Rattle.peslumok_records.proofs.cells.cells.place_of.Given as goal

abbrev pub invariant-loop-place : goal.invariant-loop-place
invariant-loop-place l = IsPlaceBefore (fields_of l.header) l.name l.place l.found
