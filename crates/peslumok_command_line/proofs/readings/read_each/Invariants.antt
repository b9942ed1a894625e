use Rattle.std.proofs.Common.{map, take}
use Rattle.std.specs.List.{AllZip}
use Rattle.peslumok_command_line.proofs.readings.read_each.Given as goal

abbrev pub invariant-loop-text : goal.invariant-loop-text
invariant-loop-text g l =
    AllZip g.T.OptionValue.stands_for
    (map (λ text. text.now) (take l.text-index l.texts)) l.read.items
