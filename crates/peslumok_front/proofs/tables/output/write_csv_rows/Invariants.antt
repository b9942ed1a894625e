use Rattle.std.proofs.Common.{◌≡◌, ◌++◌, map, string_bytes, take}
use Rattle.peslumok_front.specs.tables.Output.{csv_lines, csv_record}
use Rattle.peslumok_front.proofs.tables.output.write_csv_rows.Given as goal

-- the lines of the rows so far are appended
abbrev pub invariant-loop-row : goal.invariant-loop-row
invariant-loop-row l =
    string_bytes l.out
    ≡ string_bytes l.initial.out ++ csv_lines (map csv_record (take l.row-index l.rows))
