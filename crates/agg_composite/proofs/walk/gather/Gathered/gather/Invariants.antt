use Rattle.std.proofs.Common.{take}
use Rattle.agg_composite.specs.Choices.{AreGathered}
use Rattle.agg_composite.proofs.walk.gather.Gathered.gather.Given as goal

abbrev pub invariant-loop-index : goal.invariant-loop-index
invariant-loop-index l =
    AreGathered (take l.index l.sources) (take l.index l.accessors) l.doc l.self.sizes.items
    l.self.choices.items
