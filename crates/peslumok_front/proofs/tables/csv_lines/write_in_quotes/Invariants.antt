use Rattle.std.proofs.Common.{◌≡◌, ◌++◌, string_bytes}
use Rattle.std.specs.Str.Iter.{chars_rest}
use Rattle.csv.specs.Writing.{default_writer, escaped}
use Rattle.peslumok_front.proofs.tables.csv_lines.write_in_quotes.Given as goal

-- the text so far with what is left of the cell is the whole
abbrev pub invariant-loop-c : goal.invariant-loop-c
invariant-loop-c l =
    string_bytes l.out ++ escaped default_writer (chars_rest l.c-iterator)
    ≡ string_bytes l.initial.out ++ escaped default_writer l.cell
