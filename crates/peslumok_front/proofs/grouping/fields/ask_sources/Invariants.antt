use Rattle.std.proofs.Common.{map, take}
use Rattle.peslumok_front.specs.grouping.Fields.{AreAdded}
use Rattle.peslumok_front.proofs.grouping.fields.ask_sources.Given as goal

-- the fields so far are asked for
abbrev pub invariant-loop-by : goal.invariant-loop-by
invariant-loop-by l =
    AreAdded l.types (map (λ by. by.field.now) (take l.by-index l.sources)) l.fn.fields l.fields
