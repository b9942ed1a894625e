use Rattle.std.proofs.Common.{◌≡◌, ◌++◌, take}
use Rattle.agg_composite.specs.accessor.Least.{numbers_from}
use Rattle.agg_composite.specs.Choices.{divided_choices}
use Rattle.agg_composite.proofs.walk.gather.add_from.Given as goal

abbrev pub invariant-loop-number : goal.invariant-loop-number
invariant-loop-number l =
    l.choices.items
    ≡ l.fn.choices.items
    ++ divided_choices l.read.source.now l.read.accessors.now l.read.accessor.now l.read.index
    (numbers_from l.least (take l.number-index l.numbers))
