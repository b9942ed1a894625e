use Rattle.std.proofs.Common.{◌≡◌, ◌++◌, map, take}
use Rattle.agg_composite.specs.Choices.{choice_at}
use Rattle.agg_composite.specs.accessor.Starts.{lane_number}
use Rattle.agg_composite.proofs.walk.gather.add_starts.Given as goal

abbrev pub invariant-loop-number : goal.invariant-loop-number
invariant-loop-number l =
    l.choices.items
    ≡ l.fn.choices.items
    ++ map (λ n. choice_at l.lane.order l.lane.accessors.now l.lane.index
    (lane_number l.column.divisor l.column.column.now.keys n)) (take l.number-index l.numbers)
