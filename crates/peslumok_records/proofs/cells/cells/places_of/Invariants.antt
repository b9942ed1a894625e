use Rattle.std.proofs.Common.{take}
use Rattle.csv.specs.Records.{fields_of}
use Rattle.peslumok_records.specs.cells.Table.{ArePlaces}
use Rattle.peslumok_records.proofs.cells.cells.places_of.Given as goal

abbrev pub invariant-loop-field : goal.invariant-loop-field
invariant-loop-field l =
    ArePlaces (fields_of l.header) (take l.field-index l.asked) l.places.items
