use Rattle.std.proofs.Common.{◌≡◌}
use Rattle.peslumok_records.specs.held.Held.{held_documents}
use Rattle.peslumok_records.proofs.cells.table.see_header.Given as goal

abbrev pub invariant-loop-name : goal.invariant-loop-name
invariant-loop-name l = held_documents l.records ≡ held_documents l.initial.records
