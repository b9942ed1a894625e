use Rattle.std.proofs.Common.{◌≡◌, ◌++◌, map}
use Rattle.peslumok_front.specs.front.Asking.{named_type}
use Rattle.peslumok_front.proofs.front.grouped.ask_all.Given as goal

-- the fields so far are asked for
abbrev pub invariant-loop-name : goal.invariant-loop-name
invariant-loop-name l = l.fields ≡ map named_type l.asked ++ l.name-iterator
