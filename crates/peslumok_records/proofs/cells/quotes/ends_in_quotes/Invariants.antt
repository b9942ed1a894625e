use Rattle.std.proofs.Common.{take}
use Rattle.peslumok_records.proofs.lemmas.cells.CellParts.{IsPartAfter}
use Rattle.peslumok_records.proofs.cells.quotes.ends_in_quotes.Given as goal

abbrev pub invariant-loop-byte : goal.invariant-loop-byte
invariant-loop-byte l = IsPartAfter l.delimiter (take l.byte-index l.text) l.part
