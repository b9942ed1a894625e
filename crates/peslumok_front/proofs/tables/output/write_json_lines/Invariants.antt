use Rattle.std.proofs.Common.{◌≡◌, ◌++◌, string_bytes, take}
use Rattle.std.specs.Prelude.{flat_map}
use Rattle.peslumok_front.specs.tables.JsonLines.{json_line}
use Rattle.peslumok_front.proofs.tables.output.write_json_lines.Given as goal

-- the lines of the rows so far are appended
abbrev pub invariant-loop-row : goal.invariant-loop-row
invariant-loop-row l =
    string_bytes l.out
    ≡ string_bytes l.initial.out ++ flat_map (json_line l.columns) (take l.row-index l.rows)
