use Rattle.std.proofs.Common.{◌≡◌, ◌++◌, map, string_bytes, take}
use Rattle.csv.specs.Writing.{default_writer, fields_text}
use Rattle.peslumok_front.proofs.tables.csv_lines.write_rest.Given as goal

-- the cells so far are appended
abbrev pub invariant-loop-cell : goal.invariant-loop-cell
invariant-loop-cell l =
    string_bytes l.out
    ≡ string_bytes l.initial.out
    ++ fields_text default_writer (map (λ cell. cell.now) (take l.cell-index l.cells))
