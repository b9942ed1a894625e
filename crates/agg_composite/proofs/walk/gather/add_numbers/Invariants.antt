use Rattle.std.proofs.Common.{◌≡◌, ◌++◌, map, take}
use Rattle.agg_composite.specs.Choices.{choice_at}
use Rattle.agg_composite.proofs.walk.gather.add_numbers.Given as goal

abbrev pub invariant-loop-number : goal.invariant-loop-number
invariant-loop-number l =
    l.choices.items
    ≡ l.fn.choices.items
    ++ map (choice_at l.lane.order l.lane.accessors.now l.lane.index)
    (take l.number-index l.numbers)
