use Rattle.std.proofs.Common.{◌≡◌, ◌++◌, string_bytes, take}
use Rattle.csv.specs.Writing.{default_writer, fields_text}
use Rattle.peslumok_front.proofs.after_text.written.write_rest.Given as goal

-- the texts so far are appended
abbrev pub invariant-loop-text : goal.invariant-loop-text
invariant-loop-text l =
    string_bytes l.out
    ≡ string_bytes l.initial.out ++ fields_text default_writer (take l.text-index l.texts)
