use Rattle.std.proofs.Common.{◌≡◌, map, take}
use Rattle.peslumok_front.specs.tables.Columns.{header_of}
use Rattle.peslumok_front.proofs.tables.output.headers.Given as goal

-- the headers of the columns so far
abbrev pub invariant-loop-column : goal.invariant-loop-column
invariant-loop-column l =
    map (λ header. header.now) l.headers.items
    ≡ map header_of (take l.column-index l.column-items)
