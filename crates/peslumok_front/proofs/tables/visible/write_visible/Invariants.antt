use Rattle.std.proofs.Common.{◌≡◌, ◌++◌, string_bytes}
use Rattle.std.specs.Prelude.{flat_map}
use Rattle.peslumok_front.specs.tables.Visible.{visible_char}
use Rattle.peslumok_front.proofs.tables.visible.write_visible.Given as goal

-- what shows for the characters so far is appended
abbrev pub invariant-loop-c : goal.invariant-loop-c
invariant-loop-c l =
    string_bytes l.out ≡ string_bytes l.initial.out ++ flat_map visible_char l.yielded
