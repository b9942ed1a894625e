use Rattle.std.proofs.Common.{[], take}
use Rattle.agg_composite.specs.accessor.Accessors.{AllFit}
use Rattle.agg_engine_tests.proofs.occurrences.accessors_of.Given as goal

-- the accessors of the sources so far
abbrev pub invariant-loop-source : goal.invariant-loop-source
invariant-loop-source l = AllFit l.segment [] (take l.source-index l.sources) l.accessors
