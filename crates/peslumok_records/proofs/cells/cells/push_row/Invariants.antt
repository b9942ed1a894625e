use Rattle.std.proofs.Common.{◌≡◌, take}
use Rattle.csv.specs.Records.{fields_of}
use Rattle.agg_segment.specs.Segment.{gathered_documents}
use Rattle.peslumok_records.specs.held.Values.{Gains}
use Rattle.peslumok_records.specs.cells.Cells.{values_of_row}
use Rattle.peslumok_records.proofs.cells.cells.push_row.Given as goal

-- the values of the fields so far were appended
abbrev pub invariant-loop-index : goal.invariant-loop-index
invariant-loop-index l = record {
  documents : gathered_documents l.builder ≡ gathered_documents l.initial.builder;
  gained : Gains (values_of_row (take l.index l.asked) l.places (fields_of l.row))
      l.initial.builder l.builder;
}
