use Rattle.std.proofs.Common.{[], take}
use Rattle.agg_composite.specs.accessor.Accessors.{AllFit}
use Rattle.agg_composite_tests.proofs.segment_context.uncut.given.composite_data.Given as goal

-- the accessors of the sources so far
abbrev pub invariant-loop-source : goal.invariant-loop-source
invariant-loop-source l =
    AllFit l.segment [] (take l.source-index l.source-items) l.accessors
