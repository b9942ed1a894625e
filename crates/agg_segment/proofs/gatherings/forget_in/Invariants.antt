use Rattle.std.proofs.Common.{◌≡◌, ◌++◌, take, drop, map}
use Rattle.agg_segment.specs.Gatherings.{forgotten}
use Rattle.agg_segment.proofs.gatherings.forget_in.Given as goal

abbrev pub invariant-loop-column : goal.invariant-loop-column
invariant-loop-column l = l.columns
    ≡ map (forgotten l.doc) (take l.column-index l.initial.columns)
    ++ drop l.column-index l.initial.columns
