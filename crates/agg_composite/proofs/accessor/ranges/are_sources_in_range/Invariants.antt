use Rattle.std.proofs.Common.{take}
use Rattle.agg_values.specs.Names.{Named}
use Rattle.agg_values.specs.declared.after_key.AfterKey.{AfterKey}
use Rattle.agg_segment.specs.Segment.{Stored}
use Rattle.agg_composite.specs.accessor.Accessors.{AllFit}
use Rattle.agg_composite.proofs.lemmas.accessor.StartRanges.{AreSourcesWithin}
use Rattle.agg_composite.proofs.accessor.ranges.are_sources_in_range.Given as goal

abbrev pub invariant-loop-index : goal.invariant-loop-index
invariant-loop-index l =
    (segment : Stored) (after : Named AfterKey) → AllFit segment after l.sources l.accessors
    → AreSourcesWithin (take l.index l.sources) (take l.index l.accessors) l.docs
